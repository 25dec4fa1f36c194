-- What an accepted refill may rely on. Its list is taken apart as its functions look at it: `planes_tests`, then `lent_tests`, then 21.
use Rattle.std.proofs.Common.{◌≡◌, refl, subst, true, false, List, [], ◌∷◌, ◌++◌, ◌*◌, length, ltb-false, Ok}
use Rattle.laws.specs.Refusals.{Test, first}
use Rattle.laws.proofs.Refusals.{Failed, accepted_failed, failed_both}
use Rattle.image.specs.declared.layout.Layout.{Layout}
use Rattle.image.specs.Tests.{tests_for}
use Rattle.image.specs.Inner.Tests.{Sound}
use Rattle.image.specs.Picture.{bad_planes, Planes}
use Rattle.image.specs.Rectangles.{past_cells}
use Rattle.image.specs.Differences.{other_change}
use Rattle.image.specs.Scratch.{scratch_need}
use Rattle.image.proofs.Layouts.{neither, within, sound, sound_shaped}
use Rattle.image.proofs.Holding.{none_short}
use Rattle.kernels.specs.declared.kernel.YcbcrKernel.{YcbcrKernel}
use Rattle.fill.specs.declared.options.ChromaUpsampling.TheVariants.{LumaGuided}
use Rattle.fill.specs.Tests.{is_fixed}
use Rattle.fill.specs.Inner.Steps.{FillLent}
use Rattle.fill.specs.Refill.{RefillCall, refill_tests}
use Rattle.fill.specs.Inner.Refill.{planes_tests, lent_tests}
use Rattle.laws.specs.declared.refusal.Refusal.TheVariants.{OtherChange}

pub record PlanesTaken (l : Layout) (ps qs : Planes) : Type 0 where
  pub sound : Sound l
  pub old : bad_planes l ps ≡ false
  pub new : bad_planes l qs ≡ false

-- the layout and both sets of planes passed
pub planes_taken : (kernel : YcbcrKernel) (l : Layout) (old new : Planes) → Failed (planes_tests kernel l old new) → PlanesTaken l old new
unfolding planes_tests
planes_taken kernel l old new e =
    let f = failed_both (tests_for true (is_fixed kernel) l) _ e in
    let p = neither (bad_planes l old) (bad_planes l new) f.1.1.0 in
    record { sound = sound (is_fixed kernel) l f.0; old = p.0; new = p.1 }

-- and so did what else was lent
pub record LentTaken (c : RefillCall) : Type 0 where
  pub planes : PlanesTaken c.layout c.old c.new
  pub lent : FillLent LumaGuided c.layout c.new c.size (length c.scratch) (length c.out)
  pub cells : past_cells c.layout c.cells ≡ false

pub lent_taken : (c : RefillCall) → Failed (lent_tests c) → LentTaken c
unfolding lent_tests
lent_taken c e =
    let l = c.layout in
    let f = failed_both (planes_tests c.kernel l c.old c.new) _ e in
    let p = planes_taken c.kernel l c.old c.new f.0 in
    let n = none_short l c.new p.new in
    let z = within 3 4 c.size f.1.0 in
    record {
      planes = p;
      lent =
          record {
            lent = record { shaped = sound_shaped p.sound; whole = λ _. p.sound; luma = n.y; cb = n.cb; cr = n.cr };
            size_least = z.0;
            size_most = z.1;
            scratch = ltb-false (length c.scratch) (scratch_need l) f.1.1.0;
            output = ltb-false (length c.out) (l.w * l.h * c.size) f.1.1.1.1.0;
          };
      cells = f.1.1.1.0;
    }

-- the last test
abbrev pub last : RefillCall → List Test
last c = (other_change c.layout c.cells c.old c.new, OtherChange) ∷ []

pub parts : (c : RefillCall) → refill_tests c ≡ lent_tests c ++ last c
unfolding refill_tests lent_tests planes_tests tests_for
parts c = refl

pub record RefillTaken (c : RefillCall) : Type 0 where
  pub rest : LentTaken c
  pub change : other_change c.layout c.cells c.old c.new ≡ false

pub taken : (c : RefillCall) → first (refill_tests c) ≡ Ok tt → RefillTaken c
taken c e =
    let f = failed_both (lent_tests c) (last c) (subst Failed (parts c) (accepted_failed (refill_tests c) e)) in
    record { rest = lent_taken c f.0; change = f.1.0 }
