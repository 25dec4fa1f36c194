-- Where one of C's states stands for none nothing was changed; else the Rattle call's own record is handed on, its arguments rewritten to what
-- C's stand for.
use Rattle.std.proofs.Common.{◌≡◌, ◌∙◌, ◌||◌, Bool, false, refl, sym}
use Rattle.ffi.specs.Types.{strange_reader}
use Rattle.colorimetry.specs.Blends.{blend_reply}
use Rattle.ffi.proofs.Strange.{blend_plain}
use Rattle.ffi.proofs.blends.chroma_blend_row.Goals as goal

neither : (a b : Bool) → a ≡ false → b ≡ false → (a || b) ≡ false
neither a b e f = rw (e, f) refl

pub returns : goal.returns
returns c =
    let e : (strange_reader c.args.early || strange_reader c.args.late) ≡ false = neither _ _ (sym c.strange_reader.ensures ∙ c.if-strange_reader.false) (sym c.strange_reader-else-strange_reader.ensures ∙ c.if-strange_reader-2.false) in
    blend_plain e (record {
      reply = blend_reply c.blend_row-answer.result c.blend_row-answer.new.early c.blend_row-answer.new.late;
      given = rw (sym c.to_reader-first.ensures, sym c.to_planes.ensures, sym c.to_reader-second.ensures, sym c.to_planes-2.ensures) c.blend_row-answer.ensures;
      is = c.blend_reply_to.ensures;
    })
