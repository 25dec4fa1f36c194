-- Rounding in units of 2 ^ -149, of which every f32 is a whole number: how far above R / C its rounding can lie, and what it can't pass.
-- `closest_half` puts it within half a step, and `step_small`, the hard part, bounds the step by the number's digits. The order is the
-- library's `round_mono`, read back as fractions by `values_le`.
use Rattle.std.proofs.Common.{◌≡◌, refl, sym, ap, ◌∙◌, subst, Bool, false, ℕ, zero, suc, ◌+◌, ◌-◌, ◌*◌, ◌/◌, ◌^◌, ◌≤◌, ◌<◌, le_trans, le_of_eq, lt_of_le_of_lt, mul-one, one-mul, mul_assoc, mul-pos, mul-le-mul_right, le_of_mul-le-mul_right, div-mul-le_self, arith, T, pow-add, pow_pos, Float}
use native.Mathlib.Nat.{eq_of_mul-eq-mul_right}
use lib.IntN.{ℤ, pos, negsuc}
use lib.Ieee.{nan, inf, fin, binary32, up, down, size, round, fits, le}
use lib.Ieee.Digits.{size_reaches}
use lib.Ieee.Fits.{round_is, down_pos}
use lib.Ieee.Exact.{HasValue, units_val, round_exact}
use lib.Ieee.Nearest.{closest}
use lib.Ieee.Order.{drop, kept, transfer, round_mono}
use lib.Ieee.Scale.{grid}
use Rattle.laws.proofs.Halves.{Half, closest_half}
use Rattle.laws.proofs.Order.{le_cross}
use Rattle.laws.proofs.Values.{both_finite, fits_says, divides}

-- ---- how far above R / C its rounding can lie: 2 ^ -24 of it, and half a unit

-- the unit of the digits that are kept, against the number that they are of
step_small : (z : ℕ) → 0x80_0000 * 2 ^ (size z - 24) ≤ z + 0x80_0000
step_small z = go (size z - 24) refl
  where
    none : (w : ℕ) → 0x80_0000 * 1 ≤ w + 0x80_0000
    none w = omega arith

    enough : (w k : ℕ) → w - 24 ≡ suc k → 23 + suc k < w
    enough w k e = omega arith

    more : (a b : ℕ) → a ≤ b → a ≤ b + 0x80_0000
    more a b h = omega arith

    go : (k : ℕ) → size z - 24 ≡ k → 0x80_0000 * 2 ^ k ≤ z + 0x80_0000
    go zero e = none z
    go (suc k) e = more (0x80_0000 * 2 ^ suc k) z (le_trans (le_of_eq (sym (pow-add 2 23 (suc k)))) (size_reaches z (23 + suc k) (enough (size z) k e)))

-- for every fraction, however small
pub round_over : (R C : ℕ) → 0 < C → 0x100_0000 * (grid binary32 R C * C) ≤ 0x100_0001 * (R * 2 ^ 149) + 0x80_0000 * C
round_over R C z =
    let n = R * 2 ^ 149 in
    let k = drop 24 n C in
    go n (closest n (C * 2 ^ k)) (2 ^ k) (n / C) (closest_half n (C * 2 ^ k) (mul-pos z (pow_pos k))) (step_small (n / C)) (div-mul-le_self n C)
  where
    go : (n q p w : ℕ) → Half (q * (C * p)) n (C * p) → 0x80_0000 * p ≤ w + 0x80_0000 → w * C ≤ n → 0x100_0000 * (q * p * C) ≤ 0x100_0001 * n + 0x80_0000 * C
    go n q p w h l m = omega (arith, h.hi, mul-le-mul_right C l)

-- ---- the value of a rounding, and its order

-- R / C is rounded to so many units, if that is no overflow
pub round_value : (s : Bool) (R C : ℕ) → grid binary32 R C < 2 ^ 277 → HasValue (round binary32 s R C) s (grid binary32 R C) (2 ^ 149)
round_value s R C h =
    subst (λ (x : Float). HasValue x s (grid binary32 R C) (2 ^ 149)) (sym (round_is binary32 s R C))
    (units_val binary32 s (kept 24 (R * 2 ^ 149) C) (drop 24 (R * 2 ^ 149) C) h)

-- the order of two floats that are not negative, by their values
pub values_le : (x y : Float) (a c b d : ℕ) → HasValue x false a c → HasValue y false b d → T (le x y) → a * d ≤ b * c
values_le x y a c b d p q t =
    both_finite (λ x y. T (le x y) → a * d ≤ b * c) x y a c b d p q (λ m e n g u v t.
    transfer a b c d (m * up e) (n * up g) (down e) (down g) (down_pos e) (down_pos g) (sym u) (sym v) (le_cross m e n g t)) t

-- X units are a number that rounding keeps
pub record Kept (X : ℕ) : Type 0 where
  pub itself : HasValue (round binary32 false X (2 ^ 149)) false X (2 ^ 149)
  pub under : 2 * X + 1 < 2 ^ 277

-- a fraction that is at most X units rounds to no overflow
pub under_kept : (R C X : ℕ) → 0 < C → R * 2 ^ 149 ≤ X * C → 2 * X + 1 < 2 ^ 277 → grid binary32 R C < 2 ^ 277
under_kept R C X z h l = lt_of_le_of_lt (small (le_of_mul-le-mul_right (go (grid binary32 R C) (R * 2 ^ 149) h (round_over R C z)) z)) l
  where
    go : (g n : ℕ) → n ≤ X * C → 0x100_0000 * (g * C) ≤ 0x100_0001 * n + 0x80_0000 * C → 0x100_0000 * g * C ≤ (0x100_0001 * X + 0x80_0000) * C
    go g n h o = omega arith

    small : {g : ℕ} → 0x100_0000 * g ≤ 0x100_0001 * X + 0x80_0000 → g ≤ 2 * X + 1
    small h = omega arith

-- what is at most a kept number rounds to that at most
pub round_most : (R C X : ℕ) → 0 < C → Kept X → R * 2 ^ 149 ≤ X * C → grid binary32 R C ≤ X
round_most R C X z k h =
    le_of_mul-le-mul_right
    (values_le (round binary32 false R C) (round binary32 false X (2 ^ 149)) (grid binary32 R C) (2 ^ 149) X (2 ^ 149) (round_value false R C (under_kept R C X z h k.under)) k.itself
    (round_mono binary32 R C X (2 ^ 149) z (pow_pos 149) h)) (pow_pos 149)

-- and what is at least a kept number rounds to that at least
pub round_least : (R C X : ℕ) → 0 < C → Kept X → grid binary32 R C < 2 ^ 277 → X * C ≤ R * 2 ^ 149 → X ≤ grid binary32 R C
round_least R C X z k l h =
    le_of_mul-le-mul_right
    (values_le (round binary32 false X (2 ^ 149)) (round binary32 false R C) X (2 ^ 149) (grid binary32 R C) (2 ^ 149) k.itself (round_value false R C l)
    (round_mono binary32 X (2 ^ 149) R C (pow_pos 149) z h)) (pow_pos 149)

-- ---- the units of a float are kept

-- fewer than 2 ^ 24 times a power of two
exactly : (X q j : ℕ) → q < 2 ^ 24 → X ≡ q * 2 ^ j → 2 * X + 1 < 2 ^ 277 → Kept X
exactly X q j l e h =
    record {
      itself = round_exact binary32 false X (2 ^ 149) q j (pow_pos 149) l (subst (λ (x : ℕ). x < 2 ^ 277) e (lt_of_le_of_lt (less X) h)) (ap (λ (x : ℕ). x * 2 ^ 149) e);
      under = h;
    }
  where
    less : (x : ℕ) → x ≤ 2 * x + 1
    less x = omega arith

-- 2 ^ e is a power of two in units
power : (e : ℤ) → down e ≤ 2 ^ 149 → (j : ℕ) × (up e * 2 ^ 149 ≡ 2 ^ j * down e)
power (pos k) h = (k + 149, sym (pow-add 2 k 149) ∙ sym (mul-one (2 ^ (k + 149))))
power (negsuc k) h = let w = divides (negsuc k) h in (w.0, one-mul (2 ^ 149) ∙ sym w.2)

-- what fits the format stays as it is
pub kept_float : (x : Float) (s : Bool) (X : ℕ) → T (fits binary32 x) → HasValue x s X (2 ^ 149) → 2 * X + 1 < 2 ^ 277 → Kept X
kept_float nan s X f v h = absurd v
kept_float (inf t) s X f v h = absurd v
kept_float (fin t m e) s X f v h =
    let l = fits_says t m e f in
    let w = power e l.1 in
    exactly X m w.0 l.0
    (eq_of_mul-eq-mul_right (down e) (down_pos e) X (m * 2 ^ w.0) (sym v.1 ∙ mul_assoc m (up e) (2 ^ 149) ∙ ap (λ (x : ℕ). m * x) w.1 ∙ sym (mul_assoc m (2 ^ w.0) (down e)))) h
