use Rattle.std.proofs.Common.{◌≡◌, refl, sym, ap, subst, ◌∙◌, true, false, ◌≤◌, arith, T, ltb-true, ltb-false}
use lib.IntN.{ℤ, pos, negsuc, nat_abs}
use lib.Signed.{lt_z, non_neg}
use mir.Syntax.{w32}
use mir.Val.{to_z, of_z}
use mir.ValLaws.{to_z-of_z}
use Rattle.laws.specs.Differences.{limit}
use Rattle.kernel_blocks.proofs.limits.limit_byte.Goals as goal

high : (z : ℤ) → lt_z (pos 255) z ≡ true → 255 ≡ limit 255 z
unfolding limit
high (pos n) e = let h = ltb-true 255 n e in omega arith
high (negsuc n) e = absurd (subst T (sym e) tt)

low : (z : ℤ) → lt_z z (pos 0) ≡ true → 0 ≡ limit 255 z
unfolding limit
low (pos n) e = let h = ltb-true n 0 e in absurd (omega arith)
low (negsuc n) e = refl

-- between the limits the number itself, which a byte holds
kept : (z : ℤ) → lt_z (pos 255) z ≡ false → lt_z z (pos 0) ≡ false → T (non_neg z) × (nat_abs z ≤ 255) × (nat_abs z ≡ limit 255 z)
unfolding limit
kept (pos n) f e = let h = ltb-false 255 n f in (tt, h, omega arith)
kept (negsuc n) f e = absurd (subst T e tt)

pub returns-then-z-gt255 : goal.returns-then-z-gt255
returns-then-z-gt255 c =
    let back : to_z w32 (of_z w32 c.args.z) ≡ c.args.z = to_z-of_z w32 c.args.z c.ranges.z in
    high _ (subst (λ (v : ℤ). lt_z (pos 255) v ≡ true) back c.if-z-gt255.true)

pub returns-then-z-lt0 : goal.returns-then-z-lt0
returns-then-z-lt0 c =
    let back : to_z w32 (of_z w32 c.args.z) ≡ c.args.z = to_z-of_z w32 c.args.z c.ranges.z in
    low _ (subst (λ (v : ℤ). lt_z v (pos 0) ≡ true) back c.if-z-lt0.true)

pub returns : goal.returns
returns c =
    let back : to_z w32 (of_z w32 c.args.z) ≡ c.args.z = to_z-of_z w32 c.args.z c.ranges.z in
    let passed : (let z = to_z w32 (of_z w32 c.args.z) in T (non_neg z) × (nat_abs z ≤ 255) × (nat_abs z ≡ limit 255 z)) = kept _ c.if-z-gt255.false c.if-z-lt0.false in
    passed.2 ∙ ap (limit 255) back
