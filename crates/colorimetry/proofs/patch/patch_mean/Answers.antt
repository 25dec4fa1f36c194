-- `handed` says what a call was handed that passed its tests; from it follow the bounds, and the answers are laws of Handed. The sums are the
-- promise's by `area_is`.
use Rattle.std.proofs.Common.{◌≡◌, ◌∙◌, ◌*◌, ◌<◌, ℕ, Ok, refl, sym, arith}
use Rattle.std.proofs.lemmas.Result.{err_from_is_err_and}
use Rattle.reconstruction.specs.Refusals.{Answer, first}
use Rattle.colorimetry.specs.Patches.{PatchCall, patch_call, across_of, down_of, count_of, patch_tests}
use Rattle.colorimetry.proofs.Handed.{PatchHanded, patch_handed, across_most, down_most, count_most, start_most, refused_given, nothing_given, mean_given, area_inside, area_is, factor_some}
use Rattle.colorimetry.proofs.patch.patch_mean.Goals as goal

handed : {k : PatchCall} {a : Answer} → a ≡ first (patch_tests k) → a ≡ Ok tt → PatchHanded k
handed e h = patch_handed _ (sym e ∙ h)

counted : {k : PatchCall} {n m : ℕ} → PatchHanded k → n ≡ across_of k → m ≡ down_of k → n * m ≡ count_of k
counted h e f = rw (e, f) refl

pub returns-in_err-patch_answer : goal.returns-in_err-patch_answer
returns-in_err-patch_answer c =
    let p = err_from_is_err_and c.from_residual.result c.from_residual.ensures.1 in
    rw (p.1, p.2) (refused_given _ _ (sym c.in_err-patch_answer.was ∙ c.patch_answer.ensures))

pub shared-n-requires : goal.shared-n-requires
shared-n-requires c = (handed c.patch_answer.ensures c.in_ok-patch_answer.was).across_end

pub shared-m-requires : goal.shared-m-requires
shared-m-requires c = (handed c.patch_answer.ensures c.in_ok-patch_answer.was).down_end

pub overflow_mul-pixels : goal.overflow_mul-pixels
overflow_mul-pixels c =
    let h = handed c.patch_answer.ensures c.in_ok-patch_answer.was in
    omega (arith, count_most _ h, counted h c.shared-n.ensures.0 c.shared-m.ensures.0)

pub returns-then-pixels-eq0 : goal.returns-then-pixels-eq0
returns-then-pixels-eq0 c =
    let h = handed c.patch_answer.ensures c.in_ok-patch_answer.was in
    nothing_given _ h (sym (counted h c.shared-n.ensures.0 c.shared-m.ensures.0) ∙ c.if-pixels-eq0.true)

pub overflow_mul-rectangle : goal.overflow_mul-rectangle
overflow_mul-rectangle c = omega (arith, start_most _ (handed c.patch_answer.ensures c.in_ok-patch_answer.was))

pub overflow_add-rectangle : goal.overflow_add-rectangle
overflow_add-rectangle c = let h = handed c.patch_answer.ensures c.in_ok-patch_answer.was in omega (arith, start_most _ h)

pub overflow_mul-rectangle-2 : goal.overflow_mul-rectangle-2
overflow_mul-rectangle-2 c = let h = handed c.patch_answer.ensures c.in_ok-patch_answer.was in omega (arith, start_most _ h)

pub overflow_mul-w : goal.overflow_mul-w
overflow_mul-w c = omega (arith, handed c.patch_answer.ensures c.in_ok-patch_answer.was)

pub area_sums-s-requires : goal.area_sums-s-requires
area_sums-s-requires c =
    let h = handed c.patch_answer.ensures c.in_ok-patch_answer.was in
    let some : 0 < c.shared-n.result * c.shared-m.result = omega arith in
    let z = factor_some _ _ (rw (counted h c.shared-n.ensures.0 c.shared-m.ensures.0) at some) in
    rw (c.shared-n.ensures.0, c.shared-m.ensures.0) (across_most _ h, down_most _ h, area_inside _ h z)

pub mean_patch-requires : goal.mean_patch-requires
mean_patch-requires c =
    let h = handed c.patch_answer.ensures c.in_ok-patch_answer.was in
    (c.area_sums-s.ensures.small, rw (counted h c.shared-n.ensures.0 c.shared-m.ensures.0) (count_most _ h))

pub whole_patch-requires : goal.whole_patch-requires
whole_patch-requires c =
    let h = handed c.patch_answer.ensures c.in_ok-patch_answer.was in
    (c.area_sums-s.ensures.small, omega arith, rw (counted h c.shared-n.ensures.0 c.shared-m.ensures.0) (count_most _ h))

pub returns : goal.returns
returns c =
    let a = c.args in
    let k : PatchCall = patch_call a.rectangle a.w a.h a.rgb.now in
    let h : PatchHanded k = handed c.patch_answer.ensures c.in_ok-patch_answer.was in
    let s = c.area_sums-s.ensures in
    let x = c.shared-n.ensures.0 in
    let y = c.shared-m.ensures.0 in
    mean_given k _ _ _ h (counted h x y) (omega arith)
    (c.mean_patch.ensures ∙ rw (s.red, s.green, s.blue, x, y, area_is k 0, area_is k 1, area_is k 2))
    (c.whole_patch.ensures ∙ rw (s.red, s.green, s.blue, x, y, area_is k 0, area_is k 1, area_is k 2))
