use Rattle.std.proofs.Common.{subst}
use Rattle.image.specs.declared.rectangle.Rectangle.{Rectangle}
use Rattle.colorimetry.specs.Patches.{patch_call, patch_reply, PatchGiven}
use Rattle.ffi.proofs.patches.chroma_patch.Goals as goal

pub returns : goal.returns
returns c =
    let a = c.args in
    record {
      patched = patch_reply c.patch_mean.result;
      given = subst (λ (r : Rectangle). PatchGiven (patch_call r a.w a.h a.rgb.now) (patch_reply c.patch_mean.result)) c.to_rectangle.ensures c.patch_mean.ensures;
      is = c.from_patched.ensures;
    }
