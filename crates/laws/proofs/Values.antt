-- The value of a float as a fraction: whole numbers, their order, differences, and roundings that are exact.
-- Two floats with values that are not negative are finite with no minus sign, by `both_finite`, so that a law of two has one case to look at.
-- The differences are the hard part: the definition subtracts over the floats' own denominators, and `same_diff` shows that fraction equal
-- to the one of the given values, so that `round_same` rounds both alike.
use Rattle.std.proofs.Common.{◌≡◌, refl, sym, ap, ◌∙◌, subst₂, ℕ, zero, suc, ◌-◌, ◌*◌, ◌%◌, ◌^◌, ◌≤◌, ◌<◌, le_trans, le_of_eq, le_antisymm, lt_of_lt_of_le, lt_of_not-le, not-le_of_lt, lt_irrefl, lt_of_mul-lt-mul_right, le_of_mul-le-mul_right, le_of_suc-le-suc, mul-one, one-mul, zero-mul, mul_comm, mul_assoc, mul_right_comm, mul_left_comm, mul-pos, mul-le-mul_right, mul-le-mul_left, mul-lt-mul_of_pos_right, arith, Bool, true, false, not, ◌&&◌, cond, true≢false, T, ltb, leb, eqb, ltb→lt, nltb→le, lt→ltb, leb→le, le→leb, eqb→eq, lit≤, lit<, pow-add, pow_pos, pow_mono, Float}
use native.Mathlib.Nat.{mul-sub, eq_of_mul-eq-mul_right}
use lib.IntN.{ℤ, pos, negsuc}
use lib.Pow.{pow-lt}
use lib.Ieee.{nan, inf, fin, Format, binary32, prec, up, down, size, round, neg, sum, add, sub, div, lt, fits, is_nan, in_float, of_int}
use lib.Ieee.Digits.{size-lt, size-le, back}
use lib.Ieee.Fits.{up_pos, down_pos, and_l, and_r}
use lib.Ieee.Bits.{is_true}
use lib.Ieee.Exact.{HasValue, round_exact}
use lib.Ieee.Back.{round_whole}
use lib.Ieee.Order.{transfer}
use lib.Ieee.Scale.{round_same}
use Rattle.laws.specs.Floats.{f32}

-- ---- whole numbers up to 2 ^ prec, which a format counts without a gap

-- the cast's own test
pub in_format : (f : Format) (n : ℕ) → n ≤ 2 ^ prec f → T (in_float f (pos n))
unfolding in_float
in_format f n h = le→leb n (2 ^ prec f) h

-- the cast is exact
pub cast_value : (f : Format) (n : ℕ) → n ≤ 2 ^ prec f → HasValue (of_int f (pos n)) false n 1
unfolding of_int
cast_value f n h = round_whole f false n h

-- in single precision they are those up to 2 ^ 24
pub in_float_is : (n : ℕ) → n ≤ 16777216 → T (in_float binary32 (pos n))
in_float_is n h = in_format binary32 n h

pub whole_value : (n : ℕ) → n ≤ 16777216 → HasValue (f32 n) false n 1
whole_value n h = cast_value binary32 n h

-- what has a value is no not-a-number
pub value_no_nan : (x : Float) (s : Bool) (a c : ℕ) → HasValue x s a c → T (not (is_nan x))
unfolding is_nan
value_no_nan nan s a c v = absurd v
value_no_nan (inf t) s a c v = absurd v
value_no_nan (fin t m e) s a c v = tt

-- what holds of two finite floats without a minus sign, whatever their digits, holds of two that have values which are not negative
pub both_finite : (P : Float → Float → Type 0) (x y : Float) (a c b d : ℕ) → HasValue x false a c → HasValue y false b d
    → ((m : ℕ) (e : ℤ) (n : ℕ) (g : ℤ) → m * up e * c ≡ a * down e → n * up g * d ≡ b * down g → P (fin false m e) (fin false n g)) → P x y
both_finite P nan y a c b d p q k = absurd p
both_finite P (inf s) y a c b d p q k = absurd p
both_finite P (fin true m e) y a c b d p q k = absurd (true≢false p.0)
both_finite P (fin false m e) nan a c b d p q k = absurd q
both_finite P (fin false m e) (inf s) a c b d p q k = absurd q
both_finite P (fin false m e) (fin true n g) a c b d p q k = absurd (true≢false q.0)
both_finite P (fin false m e) (fin false n g) a c b d p q k = k m e n g p.1 q.1

-- a value of w * L / L is the whole number w
pub unscale : (x : Float) (s : Bool) (w L : ℕ) → 0 < L → HasValue x s (w * L) L → HasValue x s w 1
unscale nan s w L p v = v
unscale (inf t) s w L p v = v
unscale (fin t m e) s w L p v =
    (v.0, mul-one (m * up e) ∙ eq_of_mul-eq-mul_right L p (m * up e) (w * down e) (v.1 ∙ mul_right_comm w L (down e)))

-- two floats that are whole numbers compare as these do
pub values_compare : (x y : Float) (a b : ℕ) → HasValue x false a 1 → HasValue y false b 1 → (T (lt x y) → a < b) × (T (not (lt x y)) → b ≤ a)
unfolding lt
values_compare x y a b p q =
    both_finite (λ x y. (T (lt x y) → a < b) × (T (not (lt x y)) → b ≤ a)) x y a 1 b 1 p q (λ m e n d u v.
    let l : m * up e * down d ≡ a * (down e * down d) = cross m (up e) a (down d) (down e) u in
    let r : n * up d * down e ≡ b * (down e * down d) = cross n (up d) b (down e) (down d) v ∙ ap (λ (z : ℕ). b * z) (mul_comm (down d) (down e)) in (
      λ t. lt_of_mul-lt-mul_right (down e * down d) (subst₂ (λ (x y : ℕ). x < y) l r (ltb→lt (m * up e * down d) (n * up d * down e) t)),
      λ t. le_of_mul-le-mul_right (subst₂ (λ (x y : ℕ). y ≤ x) l r (nltb→le (m * up e * down d) (n * up d * down e) t)) (mul-pos (down_pos e) (down_pos d)),
    ))
  where
    cross : (m u a d e : ℕ) → m * u * 1 ≡ a * e → m * u * d ≡ a * (e * d)
    cross m u a d e p = rw (← mul_assoc a e d, ← p, mul-one (m * u)) refl

-- ---- how many digits

pub size_is : (n j : ℕ) → 2 ^ j ≤ n → n < 2 ^ suc j → size n ≡ suc j
size_is n j lo hi = le_antisymm (size-le n (suc j) hi) (lt_of_not-le (λ (g : size n ≤ j). not-le_of_lt (lt_of_lt_of_le (size-lt n) (pow_mono g)) lo))

-- ---- the difference of two values that are not negative, each by a fraction that it equals

opened : (f : Format) (m : ℕ) (e : ℤ) (n : ℕ) (d : ℤ) → sub f (fin false m e) (fin false n d) ≡ sum f false (m * up e * down d) true (n * up d * down e) (down e * down d)
unfolding sub add neg
opened f m e n d = refl

pick_ge : (f : Format) (a b c : ℕ) → b ≤ a → sum f false a true b c ≡ round f false (a - b) c
unfolding sum
pick_ge f a b c h = go (ltb a b) (ltb→lt a b)
  where
    go : (t : Bool) → (T t → a < b) → cond t (round f true (b - a) c) (round f false (a - b) c) ≡ round f false (a - b) c
    go true k = absurd (not-le_of_lt (k tt) h)
    go false k = refl

pick_lt : (f : Format) (a b c : ℕ) → a < b → sum f false a true b c ≡ round f true (b - a) c
unfolding sum
pick_lt f a b c h = ap (λ (t : Bool). cond t (round f true (b - a) c) (round f false (a - b) c)) (is_true (ltb a b) (lt→ltb a b h))

-- X / dx - Y / dy is a / c - b / c'
same_diff : (X dx Y dy a c b c' : ℕ) → X * c ≡ a * dx → Y * c' ≡ b * dy → (X * dy - Y * dx) * (c * c') ≡ (a * c' - b * c) * (dx * dy)
same_diff X dx Y dy a c b c' p q =
    let l : c * c' * (X * dy) ≡ dx * dy * (a * c') = simp (mul_assoc, mul_comm, mul_left_comm) (simp (mul_assoc, mul_comm, mul_left_comm) at (ap (λ (z : ℕ). z * (dy * c')) p)) in
    let r : c * c' * (Y * dx) ≡ dx * dy * (b * c) = simp (mul_assoc, mul_comm, mul_left_comm) (simp (mul_assoc, mul_comm, mul_left_comm) at (ap (λ (z : ℕ). z * (dx * c)) q)) in
    mul_comm (X * dy - Y * dx) (c * c') ∙ mul-sub (c * c') (X * dy) (Y * dx)
    ∙ ap (λ (z : ℕ). z - c * c' * (Y * dx)) l ∙ ap (λ (z : ℕ). dx * dy * (a * c') - z) r
    ∙ sym (mul_comm (a * c' - b * c) (dx * dy) ∙ mul-sub (dx * dy) (a * c') (b * c))

-- a / c - b / c', rounded once, where it is not negative
pub sub_ge : (f : Format) (x y : Float) (a c b c' : ℕ) → 0 < c → 0 < c' → HasValue x false a c → HasValue y false b c' → b * c ≤ a * c' → sub f x y ≡ round f false (a * c' - b * c) (c * c')
sub_ge f x y a c b c' C C' p q h =
    both_finite (λ x y. sub f x y ≡ round f false (a * c' - b * c) (c * c')) x y a c b c' p q (λ m e n d u v.
    opened f m e n d
    ∙ pick_ge f (m * up e * down d) (n * up d * down e) (down e * down d) (transfer (n * up d) (m * up e) (down d) (down e) b a c' c C' C v u h)
    ∙ round_same f false (m * up e * down d - n * up d * down e) (down e * down d) (a * c' - b * c) (c * c') (mul-pos (down_pos e) (down_pos d)) (mul-pos C C')
    (same_diff (m * up e) (down e) (n * up d) (down d) a c b c' u v))

-- x / dx is a / c, less than b / c', which is y / dy
pub cross_less : (x y dx dy a c b c' : ℕ) → 0 < dx → 0 < dy → x * c ≡ a * dx → y * c' ≡ b * dy → a * c' < b * c → x * dy < y * dx
cross_less x y dx dy a c b c' D D' p q h = lt_of_not-le (λ (g : y * dx ≤ x * dy). not-le_of_lt h (transfer b a c' c y x dy dx D' D (sym q) (sym p) g))

-- and where it is negative, the negative of some rounded fraction
pub sub_lt : (f : Format) (x y : Float) (a c b c' : ℕ) → HasValue x false a c → HasValue y false b c' → a * c' < b * c → (n : ℕ) × (d : ℕ) × (sub f x y ≡ round f true n d)
sub_lt f x y a c b c' p q h =
    both_finite (λ x y. (n : ℕ) × (d : ℕ) × (sub f x y ≡ round f true n d)) x y a c b c' p q (λ m e n d u v. (
      n * up d * down e - m * up e * down d,
      down e * down d,
      opened f m e n d ∙ pick_lt f (m * up e * down d) (n * up d * down e) (down e * down d) (cross_less (m * up e) (n * up d) (down e) (down d) a c b c' (down_pos e) (down_pos d) u v h),
    ))

-- ---- the quotient of two values that are not negative, each by a fraction that it equals, rounded once

-- (X / dx) / (Y / dy) is (a / c) / (b / c')
same_quotient : (X dx Y dy a c b c' : ℕ) → X * c ≡ a * dx → Y * c' ≡ b * dy → X * dy * (b * c) ≡ a * c' * (Y * dx)
same_quotient X dx Y dy a c b c' p q =
    let l : X * dy * (b * c) ≡ X * c * (b * dy) = simp (mul_assoc, mul_comm, mul_left_comm) in
    let r : a * c' * (Y * dx) ≡ a * dx * (Y * c') = simp (mul_assoc, mul_comm, mul_left_comm) in
    l ∙ ap (λ (z : ℕ). z * (b * dy)) p ∙ ap (λ (z : ℕ). a * dx * z) (sym q) ∙ sym r

pub div_rounded : (f : Format) (x y : Float) (a c b c' : ℕ) → 0 < c → 0 < b → 0 < c' → HasValue x false a c → HasValue y false b c' → div f x y ≡ round f false (a * c') (b * c)
unfolding div
div_rounded f x y a c b c' C B C' p q =
    both_finite (λ x y. div f x y ≡ round f false (a * c') (b * c)) x y a c b c' p q (λ m e n d u v.
    let N : 0 < n = positive n (up d) c' (b * down d) v (mul-pos B (down_pos d)) in
    rw (unequal n N) (round_same f false (m * up e * down d) (n * up d * down e) (a * c') (b * c) (mul-pos (mul-pos N (up_pos d)) (down_pos e)) (mul-pos B C)
    (same_quotient (m * up e) (down e) (n * up d) (down d) a c b c' u v)))
  where
    zero_product : (u c : ℕ) → 0 * u * c ≡ 0
    zero_product u c = rw (zero-mul u, zero-mul c) refl

    positive : (n u c z : ℕ) → n * u * c ≡ z → 0 < z → 0 < n
    positive zero u c z e h = absurd (lt_irrefl 0 (lt_of_lt_of_le h (le_of_eq (sym e ∙ zero_product u c))))
    positive (suc n) u c z e h = omega arith

    unequal : (n : ℕ) → 0 < n → eqb n 0 ≡ false
    unequal n h = go (eqb n 0) (eqb→eq n 0)
      where
        go : (t : Bool) → (T t → n ≡ 0) → t ≡ false
        go true k = absurd (let e = k tt in omega arith)
        go false k = refl

-- ---- what it takes to be an f32, taken apart

pub fits_says : (s : Bool) (m : ℕ) (e : ℤ) → T (fits binary32 (fin s m e)) → (m < 2 ^ 24) × (down e ≤ 2 ^ 149)
unfolding fits
fits_says s zero e h =
    (lit< tt, le_trans (le_of_eq (sym (one-mul (down e)))) (le_trans (mul-le-mul_right (down e) (up_pos e)) (le_trans (le_of_eq (eqb→eq (up e * down e) 1 h)) (pow_pos 149))))
fits_says s (suc m) e h =
    let A = eqb (suc m % 2) 1 in
    let B = ltb (suc m) (2 ^ 24) in
    let C = leb (down e) (2 ^ 149) in
    let D = ltb (suc m * up e) (2 ^ 128 * down e) in
    (ltb→lt (suc m) (2 ^ 24) (and_r A B (and_l (A && B) C (and_l (A && B && C) D h))), leb→le (down e) (2 ^ 149) (and_r (A && B) C (and_l (A && B && C) D h)))

pow_le_back : (a l : ℕ) → 2 ^ a ≤ 2 ^ l → a ≤ l
pow_le_back a l h = le_of_suc-le-suc (lt_of_not-le (λ (g : suc l ≤ a). lt_irrefl (2 ^ l) (lt_of_lt_of_le (pow-lt g) h)))

-- 2 ^ 149 is a multiple of the denominator
pub divides : (e : ℤ) → down e ≤ 2 ^ 149 → (j : ℕ) × (j ≤ 149) × (2 ^ j * down e ≡ 2 ^ 149)
divides (pos k) h = (149, lit≤ tt, refl)
divides (negsuc k) h =
    let l : suc k ≤ 149 = pow_le_back (suc k) 149 h in
    (149 - suc k, omega arith, sym (pow-add 2 (149 - suc k) (suc k)) ∙ ap (λ (x : ℕ). 2 ^ x) (back 149 (suc k) l))

-- q below 2 ^ 24 over a float's denominator is rounded to itself
pub round_kept : (e : ℤ) (q : ℕ) → down e ≤ 2 ^ 149 → q < 2 ^ 24 → HasValue (round binary32 false q (down e)) false q (down e)
round_kept e q h l =
    let w = divides e h in
    let j = w.0 in
    round_exact binary32 false q (down e) q j (down_pos e) l
    (lt_of_lt_of_le (mul-lt-mul_of_pos_right l (pow_pos j)) (le_trans (mul-le-mul_left (2 ^ 24) (pow_mono w.1)) (lit≤ tt)))
    (ap (λ (z : ℕ). q * z) (sym w.2) ∙ sym (mul_assoc q (2 ^ j) (down e)))
