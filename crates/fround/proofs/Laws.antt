-- What callers ask of the definitions: a rounding is within its limit, keeps whole numbers and the order; a value raised to lo and lowered to hi
-- lies between. By the cases of a float: of two fractions `round_mono` is laws' `up_mono`, and its odd case is a value at most a negative one,
-- which is a zero. Two floats of the same bits are equal because both fit the format, so that their bits can be read back.
use Rattle.std.proofs.Common.{◌≡◌, refl, sym, ap, ◌∙◌, Bool, true, false, not, ◌&&◌, true≢false, cond, ℕ, ◌*◌, ◌≤◌, min, zero-le, le_refl, le_trans, le_of_eq, mul-one, zero-mul, arith, T, eqb, Float, eqb-true}
use native.Mathlib.Nat.{eq_of_mul-eq-mul_right}
use lib.Ieee.{nan, inf, fin, up, down, lt, le, binary32, fits, is_nan, of_bits, to_bits}
use lib.Ieee.Fits.{down_pos}
use lib.Ieee.Bits.{of_bits-to_bits}
use lib.Ieee.Exact.{HasValue}
use Rattle.laws.specs.Floats.{f32}
use Rattle.laws.specs.Rounding.{half_up}
use Rattle.laws.proofs.Halves.{up_whole, up_mono}
use Rattle.laws.proofs.Order.{lt_le, le_self, not_nan_left, not_nan_right, le_cross, le_negative}
use Rattle.laws.proofs.Values.{whole_value}
use Rattle.fround.specs.Rounding.{fmin, fmax, round_clamped, is_same_float}
use Rattle.fround.specs.Inner.Rounding.{Rounded}

min_left : (a b : ℕ) → min a b ≤ a
min_left a b = omega arith

min_zero : (a : ℕ) → min a 0 ≡ 0
min_zero a = omega arith

min_mono : (m a b : ℕ) → a ≤ b → min m a ≤ min m b
min_mono m a b h = omega arith

-- the result is within the limit
pub round_within : (limit : ℕ) (x : Float) → round_clamped limit x ≤ limit
unfolding round_clamped
round_within limit nan = zero-le
round_within limit (inf true) = zero-le
round_within limit (inf false) = le_refl limit
round_within limit (fin true m e) = zero-le
round_within limit (fin false m e) = min_left limit (half_up (m * up e) (down e))

pub rounded : {limit : ℕ} {x : Float} {r : ℕ} → r ≡ round_clamped limit x → Rounded limit x r
rounded {limit} {x} p = record { is = p; within = le_trans (le_of_eq p) (round_within limit x) }

-- a whole number rounds to itself, limited
pub round_value : (limit k : ℕ) (x : Float) → HasValue x false k 1 → round_clamped limit x ≡ min limit k
unfolding round_clamped
round_value limit k nan v = absurd v
round_value limit k (inf s) v = absurd v
round_value limit k (fin true m e) v = absurd (true≢false v.0)
round_value limit k (fin false m e) v = ap (λ (z : ℕ). min limit z) (up_whole (m * up e) (down e) k (down_pos e) (sym (mul-one (m * up e)) ∙ v.1))

pub round_whole : (limit k : ℕ) → k ≤ 16777216 → round_clamped limit (f32 k) ≡ min limit k
round_whole limit k h = round_value limit k (f32 k) (whole_value k h)

-- a larger value gives no smaller number
pub round_mono : (limit : ℕ) (x y : Float) → T (le x y) → round_clamped limit x ≤ round_clamped limit y
unfolding round_clamped le
round_mono limit nan y t = absurd t
round_mono limit (inf true) y t = zero-le
round_mono limit (inf false) nan t = absurd t
round_mono limit (inf false) (inf true) t = absurd t
round_mono limit (inf false) (inf false) t = le_refl limit
round_mono limit (inf false) (fin true n d) t = absurd t
round_mono limit (inf false) (fin false n d) t = absurd t
round_mono limit (fin true m e) y t = zero-le
round_mono limit (fin false m e) nan t = absurd t
round_mono limit (fin false m e) (inf true) t = absurd t
round_mono limit (fin false m e) (inf false) t = min_left limit (half_up (m * up e) (down e))
round_mono limit (fin false m e) (fin true n d) t =
    let z : m * up e * down d ≡ 0 = le_negative m e n d t in
    let a : m * up e ≡ 0 * down e = eq_of_mul-eq-mul_right (down d) (down_pos d) (m * up e) (0 * down e) (z ∙ sym (ap (λ (x : ℕ). x * down d) (zero-mul (down e)) ∙ zero-mul (down d))) in
    le_of_eq (ap (λ (x : ℕ). min limit x) (up_whole (m * up e) (down e) 0 (down_pos e) a) ∙ min_zero limit)
round_mono limit (fin false m e) (fin false n d) t =
    min_mono limit (half_up (m * up e) (down e)) (half_up (n * up d) (down d)) (up_mono (m * up e) (down e) (n * up d) (down d) (down_pos e) (down_pos d) (le_cross m e n d t))

-- lo and hi in order, so that neither is a not-a-number; v is any value, a not-a-number too
pub between : (v lo hi : Float) → T (le lo hi) → T (le lo (fmin (fmax v lo) hi)) × T (le (fmin (fmax v lo) hi) hi)
between v lo hi h = go (lt lo v) (lt_le lo v)
  where
    top : T (le hi hi)
    top = le_self hi (not_nan_right lo hi h)

    bottom : T (le lo lo)
    bottom = le_self lo (not_nan_left lo hi h)

    last : (p : Float) → T (le lo p) → (b : Bool) → (T b → T (le p hi)) → T (le lo (cond b p hi)) × T (le (cond b p hi) hi)
    last p l true k = (l, k tt)
    last p l false k = (h, top)

    go : (b : Bool) → (T b → T (le lo v)) → T (le lo (fmin (cond b v lo) hi)) × T (le (fmin (cond b v lo) hi) hi)
    go true k = last v (k tt) (lt v hi) (lt_le v hi)
    go false k = last lo bottom (lt lo hi) (lt_le lo hi)

-- ---- the same value

bits_same : (x y : Float) → T (fits binary32 x) → T (fits binary32 y) → to_bits binary32 x ≡ to_bits binary32 y → x ≡ y
bits_same x y f g e = sym (of_bits-to_bits binary32 x f) ∙ ap (of_bits binary32) e ∙ of_bits-to_bits binary32 y g

nan_is : (x : Float) → is_nan x ≡ true → x ≡ nan
unfolding is_nan
nan_is nan e = refl
nan_is (inf s) e = let z : ◌≡◌ {A = ℕ} 0 1 = cc in absurd (omega arith)
nan_is (fin s m d) e = let z : ◌≡◌ {A = ℕ} 0 1 = cc in absurd (omega arith)

-- two f32 that pass are equal
pub same_float : (x y : Float) → T (fits binary32 x) → T (fits binary32 y) → is_same_float x y ≡ true → x ≡ y
unfolding is_same_float
same_float x y f g e = go (is_nan x) (nan_is x) (is_nan y) (nan_is y) (eqb (to_bits binary32 x) (to_bits binary32 y)) (eqb-true (to_bits binary32 x) (to_bits binary32 y)) e
  where
    go : (a : Bool) → (a ≡ true → x ≡ nan) → (b : Bool) → (b ≡ true → y ≡ nan) → (c : Bool) → (c ≡ true → to_bits binary32 x ≡ to_bits binary32 y) → cond a b (not b && c) ≡ true → x ≡ y
    go true p true q c r e = p refl ∙ sym (q refl)
    go true p false q c r e = let z : ◌≡◌ {A = ℕ} 0 1 = cc in absurd (omega arith)
    go false p true q c r e = let z : ◌≡◌ {A = ℕ} 0 1 = cc in absurd (omega arith)
    go false p false q c r e = bits_same x y f g (r e)
