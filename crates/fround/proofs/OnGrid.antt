-- The grid: c + 2 ^ 23 rounds c to the nearest whole number, ties to even, and the test for one half mends the ties that went down.
-- laws' `on_grid` gives the sum, and `side` the three places of c about its whole number. The hard step is `test`: c less that number is
-- rounded to itself (`round_kept`), so that it equals one half exactly where a tie went down.
use Rattle.std.proofs.Common.{◌≡◌, refl, sym, ap, ◌∙◌, subst, ℕ, zero, suc, ◌+◌, ◌-◌, ◌*◌, ◌%◌, ◌^◌, ◌≤◌, ◌<◌, le_trans, le_of_eq, le_of_lt, lt_of_le_of_lt, lt_irrefl, zero-lt-suc, mul-one, one-mul, mul_comm, mul_assoc, mul_right_comm, mul-le-mul_right, add-zero, add-one, arith, Bool, true, false, not, ◌&&◌, cond, true≢false, T, ltb, eqb, eqb→eq, lit≤, Float}
use native.Mathlib.Nat.{eq_of_mul-eq-mul_right}
use lib.IntN.{ℤ, pos, negsuc}
use lib.Dec.{not_T}
use lib.Ieee.{nan, inf, fin, Format, binary32, prec, emax, low, up, down, odd, units, round, add, sub, eq, fits, is_nan, to_bits}
use lib.Ieee.Fits.{round_is, down_pos, and_l, and_r, eq→eqb}
use lib.Ieee.Bits.{is_true, is_false}
use lib.Ieee.Exact.{HasValue}
use lib.Ieee.Back.{round_whole}
use lib.Ieee.Nearest.{closest, closest_mono}
use Rattle.laws.specs.Rounding.{half_up}
use Rattle.laws.proofs.Halves.{Side, over, tie, near, side, closest_shift}
use Rattle.laws.proofs.Values.{sub_ge, sub_lt, fits_says, round_kept, value_no_nan}
use Rattle.laws.proofs.Operators.{add_up}
use Rattle.laws.proofs.Grids.{on_grid, grid_bits}
use Rattle.fround.specs.Rounding.{round_clamped}
use Rattle.fround.proofs.Limits.{Limited}

abbrev pub two23 : Float
two23 = fin false 1 (pos 23)

abbrev pub half : Float
half = fin false 1 (negsuc 0)

-- ---- c + k, for c = a / d up to 2 ^ 22 and a k just above 2 ^ 23
closest_le : (a d : ℕ) → 0 < d → a ≤ 4194304 * d → closest a d ≤ 4194304
closest_le a d D h = closest_mono a d 4194304 1 D (zero-lt-suc 0) (le_trans (le_of_eq (mul-one a)) h)

sum_val : (k a d : ℕ) → 8388608 ≤ k → k ≤ 8388609 → 0 < d → a ≤ 4194304 * d → HasValue (round binary32 false (a + k * d) d) false (closest (a + k * d) d) 1
sum_val k a d lo hi D h =
    let l : 8388608 * d ≤ k * d = mul-le-mul_right d lo in
    let m : k * d ≤ 8388609 * d = mul-le-mul_right d hi in
    let n : closest (a + k * d) d ≤ 12582913 = closest_mono (a + k * d) d 12582913 1 D (zero-lt-suc 0) (le_trans (le_of_eq (mul-one (a + k * d))) (omega arith)) in
    subst (λ (z : ℕ). HasValue (round binary32 false (a + k * d) d) false z 1) (mul-one _ ∙ ap (closest (a + k * d)) (mul-one d))
    (on_grid 0 (a + k * d) d (lit≤ tt) D (omega arith) (omega arith) (subst (λ (z : ℕ). closest (a + k * d) z < 2 ^ 24) (sym (mul-one d)) (omega arith)))

-- a whole number over another denominator
over_d : (y : Float) (k d : ℕ) → HasValue y false k 1 → HasValue y false (k * d) d
over_d nan k d v = v
over_d (inf s) k d v = v
over_d (fin s m e) k d v = (v.0, go (m * up e) (down e) v.1)
  where
    go : (M D : ℕ) → M * 1 ≡ k * D → M * d ≡ k * d * D
    go M D e = omega (arith, ap (λ (z : ℕ). z * d) e)

pub t_val : (k m : ℕ) (e : ℤ) (y : Float) → HasValue y false k 1 → 8388608 ≤ k → k ≤ 8388609 → m * up e ≤ 4194304 * down e → HasValue (add binary32 (fin false m e) y) false (closest (m * up e + k * down e) (down e)) 1
t_val k m e y v lo hi h =
    subst (λ (z : Float). HasValue z false (closest (m * up e + k * down e) (down e)) 1) (sym (add_up binary32 (fin false m e) y (m * up e) (k * down e) (down e) (down_pos e) (refl, refl) (over_d y k (down e) v)))
    (sum_val k (m * up e) (down e) lo hi (down_pos e) h)

-- the sum with 2 ^ 23 itself
pub two23_val : (m : ℕ) (e : ℤ) → m * up e ≤ 4194304 * down e → HasValue (add binary32 (fin false m e) two23) false (8388608 + closest (m * up e) (down e)) 1
two23_val m e h =
    subst (λ (z : ℕ). HasValue (add binary32 (fin false m e) two23) false z 1) (closest_shift 8388608 (m * up e) (down e) refl (down_pos e))
    (t_val 8388608 m e two23 (refl, refl) (omega arith) (omega arith) h)

-- ---- its bits: the low 23 are the whole number
pub bits_whole : (x : Float) (N : ℕ) → N < 8388608 → HasValue x false (8388608 + N) 1 → to_bits binary32 x % 8388608 ≡ N
bits_whole x N h v =
    ap (λ (z : ℕ). z % 8388608) (grid_bits 0 x (8388608 + N) (omega arith) (omega arith) (subst (λ (z : ℕ). HasValue x false z 1) (sym (mul-one (8388608 + N))) v)) ∙ last N h
  where
    last : (N : ℕ) → N < 8388608 → (1249902592 + (8388608 + N)) % 8388608 ≡ N
    last N h = omega arith

-- ---- a negative value is not one half
no_half : (A D : ℕ) → 0 < D → T (eqb A (1 * D) && eqb A 0) → ⊥
no_half A D p t =
    let x : A ≡ 1 * D = eqb→eq A (1 * D) (and_l (eqb A (1 * D)) (eqb A 0) t) in
    let y : A ≡ 0 = eqb→eq A 0 (and_r (eqb A (1 * D)) (eqb A 0) t) in
    omega arith

negative_not_half : (m : ℕ) (e : ℤ) → eq (fin true m e) half ≡ false
unfolding eq
negative_not_half m e = is_false (eqb (m * up e * 2) (1 * down e) && eqb (m * up e * 2) 0) (not_T (eqb (m * up e * 2) (1 * down e) && eqb (m * up e * 2) 0) (no_half (m * up e * 2) (down e) (down_pos e)))

inf_not_half : (s : Bool) → eq (inf s) half ≡ false
unfolding eq
inf_not_half s = refl

odd_not_half : (d q k l : ℕ) → eq (odd d true q k l) half ≡ false
unfolding odd
odd_not_half d zero k l = negative_not_half zero (pos zero)
odd_not_half d (suc q) k l = negative_not_half _ _

units_not_half : (f : Format) (q k : ℕ) → eq (units f true q k) half ≡ false
unfolding units
units_not_half f q k = go (ltb (q * 2 ^ k) (2 ^ (low f + suc (emax f))))
  where
    go : (b : Bool) → eq (cond b (odd (suc (prec f)) true q k (low f)) (inf true)) half ≡ false
    go true = odd_not_half (suc (prec f)) q k (low f)
    go false = inf_not_half true

round_not_half : (f : Format) (a b : ℕ) → eq (round f true a b) half ≡ false
round_not_half f a b = ap (λ (z : Float). eq z half) (round_is f true a b) ∙ units_not_half f _ _

pub sub_lt_not_half : (x y : Float) (a c b c' : ℕ) → HasValue x false a c → HasValue y false b c' → a * c' < b * c → eq (sub binary32 x y) half ≡ false
sub_lt_not_half x y a c b c' p q h = let w = sub_lt binary32 x y a c b c' p q h in ap (λ (z : Float). eq z half) w.2 ∙ round_not_half binary32 w.0 w.1

-- ---- the test for one half, by the fraction
half_to : (M D q d : ℕ) → 0 < D → M * d ≡ q * D → M * 2 ≡ 1 * D → q * 2 ≡ d
half_to M D q d p v h =
    let D2 : D ≡ M * 2 = omega arith in
    let M0 : 0 < M = omega arith in
    eq_of_mul-eq-mul_right M M0 (q * 2) d
    (mul_right_comm q 2 M ∙ mul_assoc q M 2 ∙ ap (λ (z : ℕ). q * z) (sym D2) ∙ sym v ∙ mul_comm M d)

half_from : (M D q d : ℕ) → 0 < d → M * d ≡ q * D → q * 2 ≡ d → M * 2 ≡ 1 * D
half_from M D q d p v h =
    let q0 : 0 < q = omega arith in
    eq_of_mul-eq-mul_right q q0 (M * 2) (1 * D)
    (mul_assoc M 2 q ∙ ap (λ (z : ℕ). M * z) (mul_comm 2 q ∙ h) ∙ v ∙ mul_comm q D ∙ ap (λ (z : ℕ). z * q) (sym (one-mul D)))

and_true : (b : Bool) → T b → T (b && true)
and_true true t = tt
and_true false t = t

half_yes : (x : Float) (q d : ℕ) → 0 < d → HasValue x false q d → q * 2 ≡ d → eq x half ≡ true
unfolding eq
half_yes nan q d D v h = absurd v
half_yes (inf s) q d D v h = absurd v
half_yes (fin true m e) q d D v h = absurd (true≢false v.0)
half_yes (fin false m e) q d D v h =
    is_true (eqb (m * up e * 2) (1 * down e) && true) (and_true (eqb (m * up e * 2) (1 * down e)) (eq→eqb (half_from (m * up e) (down e) q d D v.1 h)))

half_no : (x : Float) (q d : ℕ) → HasValue x false q d → (q * 2 ≡ d → ⊥) → eq x half ≡ false
unfolding eq
half_no nan q d v h = absurd v
half_no (inf s) q d v h = absurd v
half_no (fin true m e) q d v h = absurd (true≢false v.0)
half_no (fin false m e) q d v h =
    let b = eqb (m * up e * 2) (1 * down e) in
    is_false (b && true) (not_T (b && true) (λ t. h (half_to (m * up e) (down e) q d (down_pos e) v.1 (eqb→eq (m * up e * 2) (1 * down e) (and_l b true t)))))

small_diff : (m : ℕ) (e : ℤ) (N : ℕ) → m < 2 ^ 24 → (m * up e - N * down e) * 2 ≤ down e → m * up e - N * down e < 2 ^ 24
small_diff m (pos k) N h l = omega arith
small_diff m (negsuc k) N h l = omega arith

-- ---- the whole: what the body computes from c is c rounded, halves up
unfoldable pub on : Float → ℕ
on c = to_bits binary32 (add binary32 c two23) % 8388608 + cond (eq (sub binary32 c (sub binary32 (add binary32 c two23) two23)) half) 1 0

back_val : (x : Float) (N : ℕ) → N ≤ 2 ^ 24 → HasValue x false (8388608 + N) 1 → HasValue (sub binary32 x two23) false N 1
back_val x N h v =
    subst (λ (z : Float). HasValue z false N 1)
    (sym (sub_ge binary32 x two23 (8388608 + N) 1 8388608 1 (zero-lt-suc 0) (zero-lt-suc 0) v (refl, refl) (omega arith)
    ∙ ap (λ (z : ℕ). round binary32 false z 1) (less N)))
    (round_whole binary32 false N h)
  where
    less : (N : ℕ) → (8388608 + N) * 1 - 8388608 * 1 ≡ N
    less N = omega arith

gap : (m : ℕ) (e : ℤ) (s : Float) (N : ℕ) → HasValue s false N 1 → N * down e ≤ m * up e → sub binary32 (fin false m e) s ≡ round binary32 false (m * up e - N * down e) (down e)
gap m e s N v h =
    sub_ge binary32 (fin false m e) s (m * up e) (down e) N 1 (down_pos e) (zero-lt-suc 0) (refl, refl) v (le_trans h (le_of_eq (sym (mul-one (m * up e)))))
    ∙ ap (λ (z : ℕ). round binary32 false (z - N * down e) (down e * 1)) (mul-one (m * up e))
    ∙ ap (λ (z : ℕ). round binary32 false (m * up e - N * down e) z) (mul-one (down e))

test : (m : ℕ) (e : ℤ) (s : Float) (N : ℕ) → T (fits binary32 (fin false m e)) → HasValue s false N 1 → Side (m * up e) (down e) N
    → N + cond (eq (sub binary32 (fin false m e) s) half) 1 0 ≡ half_up (m * up e) (down e)
test m e s N f v (over h u) =
    ap (λ (b : Bool). N + cond b 1 0) (sub_lt_not_half (fin false m e) s (m * up e) (down e) N 1 (refl, refl) v (lt_of_le_of_lt (le_of_eq (mul-one (m * up e))) h))
    ∙ add-zero N ∙ sym u
test m e s N f v (tie h k u) =
    ap (λ (b : Bool). N + cond b 1 0) (ap (λ (z : Float). eq z half) (gap m e s N v h) ∙ half_yes _ (m * up e - N * down e) (down e) (down_pos e) (round_kept e (m * up e - N * down e) (fits_says false m e f).1 (small_diff m e N (fits_says false m e f).0 (le_of_eq k))) k)
    ∙ add-one N ∙ sym u
test m e s N f v (near h k u) =
    ap (λ (b : Bool). N + cond b 1 0) (ap (λ (z : Float). eq z half) (gap m e s N v h) ∙ half_no _ (m * up e - N * down e) (down e) (round_kept e (m * up e - N * down e) (fits_says false m e f).1 (small_diff m e N (fits_says false m e f).0 (le_of_lt k))) (λ g. lt_irrefl (down e) (subst (λ (z : ℕ). z < down e) g k)))
    ∙ add-zero N ∙ sym u

pub on_is : (m : ℕ) (e : ℤ) → T (fits binary32 (fin false m e)) → m * up e ≤ 4194304 * down e → on (fin false m e) ≡ half_up (m * up e) (down e)
unfolding on
on_is m e f h =
    let t = add binary32 (fin false m e) two23 in
    let N = closest (m * up e) (down e) in
    let n : N ≤ 4194304 = closest_le (m * up e) (down e) (down_pos e) h in
    let v : HasValue t false (8388608 + N) 1 = two23_val m e h in
    ap (λ (z : ℕ). z + cond (eq (sub binary32 (fin false m e) (sub binary32 t two23)) half) 1 0) (bits_whole t N (omega arith) v)
    ∙ test m e (sub binary32 t two23) N f (back_val t N (omega arith) v) (side (m * up e) (down e) (down_pos e))

-- ---- at a limited value
bound : (a d max : ℕ) → max ≤ 4194304 → a ≤ max * d → a ≤ 4194304 * d
bound a d max h k = le_trans k (mul-le-mul_right d h)

on_rounds : (x c : Float) (max : ℕ) → max ≤ 4194304 → Limited max x c → on c ≡ round_clamped max x
on_rounds x c max h L = ap on L.is ∙ on_is L.m L.e L.fits' (bound (L.m * up L.e) (down L.e) max h L.within) ∙ L.rounds

pub sum_no_nan : (x c : Float) (max : ℕ) → max ≤ 4194304 → Limited max x c → T (not (is_nan (add binary32 c two23)))
sum_no_nan x c max h L =
    subst (λ (z : Float). T (not (is_nan (add binary32 z two23)))) (sym L.is)
    (value_no_nan (add binary32 (fin false L.m L.e) two23) false (8388608 + closest (L.m * up L.e) (down L.e)) 1 (two23_val L.m L.e (bound (L.m * up L.e) (down L.e) max h L.within)))

-- the same by the sum t that the code has
pub on_sum : (x c t : Float) (max : ℕ) → max ≤ 4194304 → t ≡ add binary32 c two23 → Limited max x c
    → to_bits binary32 t % 8388608 + cond (eq (sub binary32 c (sub binary32 t two23)) half) 1 0 ≡ round_clamped max x
unfolding on
on_sum x c t max h e L = rw e (on_rounds x c max h L)
