-- What an accepted fill may rely on.
use Rattle.std.proofs.Common.{◌≡◌, subst, ◌*◌, length, ltb-false, Ok}
use Rattle.laws.specs.Refusals.{first}
use Rattle.laws.proofs.Refusals.{Failed, accepted_failed, failed_both}
use Rattle.image.specs.Tests.{tests_for}
use Rattle.image.specs.Picture.{short_plane, bad_planes}
use Rattle.image.proofs.Layouts.{neither, within, shaped, sound}
use Rattle.image.specs.Scratch.{scratch_need}
use Rattle.fill.specs.declared.options.ChromaUpsampling.{ChromaUpsampling}
use Rattle.fill.specs.Tests.{FillCall, is_fixed, is_guided, fill_tests}
use Rattle.fill.specs.Inner.Steps.{FillLent}

pub ready : (c : FillCall) → first (fill_tests c) ≡ Ok tt → FillLent c.upsampling c.layout c.planes c.size (length c.scratch) (length c.out)
unfolding fill_tests bad_planes
ready c e =
    let l = c.layout in
    let ps = c.planes in
    let f = failed_both (tests_for (is_guided c.upsampling) (is_fixed c.kernel) l) _ (accepted_failed (fill_tests c) e) in
    let p = neither (short_plane l l.w l.h ps.y) _ f.1.1.0 in
    let q = neither (short_plane l l.cw l.ch ps.cb) (short_plane l l.cw l.ch ps.cr) p.1 in
    let z = within 3 4 c.size f.1.1.1.1.0 in
    record {
      lent =
          record {
            shaped = shaped (is_guided c.upsampling) (is_fixed c.kernel) l f.0;
            whole = λ g. sound (is_fixed c.kernel) l (subst (λ (up : ChromaUpsampling). Failed (tests_for (is_guided up) (is_fixed c.kernel) l)) g f.0);
            luma = p.0;
            cb = q.0;
            cr = q.1;
          };
      size_least = z.0;
      size_most = z.1;
      scratch = ltb-false (length c.scratch) (scratch_need l) f.1.1.1.1.1.0;
      output = ltb-false (length c.out) (l.w * l.h * c.size) f.1.1.1.1.1.1.0;
    }
