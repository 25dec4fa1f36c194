-- A number from 2 ^ (23 + j) up to 2 ^ (24 + j) is rounded to a multiple of 2 ^ j, the nearest, ties to even; and its bits count those multiples.
-- In units of 2 ^ -149 it has 173 + j digits (`units_size`), of which 149 + j are dropped. That number put into the library's `grid` is
-- `on_grid`, and put into `to_bits` it is `grid_bits`.
use Rattle.std.proofs.Common.{◌≡◌, sym, ap, ◌∙◌, subst, true≢false, true, false, ℕ, suc, ◌+◌, ◌-◌, ◌*◌, ◌/◌, ◌^◌, ◌≤◌, ◌<◌, le_trans, le_of_eq, lt_of_lt_of_le, mul-one, mul_right_comm, mul-pos, mul-le-mul_left, mul-le-mul_right, mul-lt-mul_of_pos_right, le-div_iff_mul-le, div-lt_iff_lt-mul, mul-div_cancel, arith, lit≤, pow-add, pow_pos, pow_mono, Float}
use lib.IntN.{ℤ}
use lib.Ieee.{nan, inf, fin, binary32, up, down, size, round, to_bits}
use lib.Ieee.Fits.{down_pos}
use lib.Ieee.Exact.{HasValue}
use lib.Ieee.Nearest.{closest, closest_same}
use lib.Ieee.Order.{drop}
use lib.Ieee.Scale.{grid, overflow, round_val}
use Rattle.laws.proofs.Values.{unscale, size_is}

module _ (j : ℕ) where
  -- 2 ^ (a + j) in units of 2 ^ -149
  scaled : (q t d : ℕ) → q * t * 2 ^ j * d ≡ q * 2 ^ j * d * t
  scaled q t d = go q t (2 ^ j) d
    where
      go : (q t z d : ℕ) → q * t * z * d ≡ q * z * d * t
      go q t z d = omega arith

  next : suc (172 + j) ≡ 173 + j
  next = omega arith

  dropped : 173 + j - 24 ≡ 149 + j
  dropped = omega arith

  units_size : (A d : ℕ) → 0 < d → 2 ^ 23 * 2 ^ j * d ≤ A → A < 2 ^ 24 * 2 ^ j * d → size (A * 2 ^ 149 / d) ≡ 173 + j
  units_size A d D lo hi =
      size_is (A * 2 ^ 149 / d) (172 + j)
      ((le-div_iff_mul-le D).1 (le_trans (le_of_eq (ap (λ (z : ℕ). z * d) (pow-add 2 172 j) ∙ scaled (2 ^ 23) (2 ^ 149) d)) (mul-le-mul_right (2 ^ 149) lo)))
      ((div-lt_iff_lt-mul D).1
      (lt_of_lt_of_le (mul-lt-mul_of_pos_right hi (pow_pos 149)) (le_of_eq (sym (ap (λ (z : ℕ). 2 ^ z * d) next ∙ ap (λ (z : ℕ). z * d) (pow-add 2 173 j) ∙ scaled (2 ^ 24) (2 ^ 149) d)))))
      ∙ next

  pub on_grid : (A d : ℕ) → j ≤ 104 → 0 < d → 2 ^ 23 * 2 ^ j * d ≤ A → A < 2 ^ 24 * 2 ^ j * d → closest A (d * 2 ^ j) < 2 ^ 24
      → HasValue (round binary32 false A d) false (closest A (d * 2 ^ j) * 2 ^ j) 1
  on_grid A d h D lo hi small =
      let N = closest A (d * 2 ^ j) in
      let p : 2 ^ (149 + j) ≡ 2 ^ 149 * 2 ^ j = pow-add 2 149 j in
      let k : drop 24 (A * 2 ^ 149) d ≡ 149 + j = ap (λ (z : ℕ). z - 24) (units_size A d D lo hi) ∙ dropped in
      let g : grid binary32 A d ≡ N * 2 ^ j * 2 ^ 149 =
      ap (λ (z : ℕ). closest (A * 2 ^ 149) (d * 2 ^ z) * 2 ^ z) k
      ∙ ap (λ (z : ℕ). closest (A * 2 ^ 149) (d * z) * z) p
      ∙ ap (λ (z : ℕ). z * (2 ^ 149 * 2 ^ j)) (closest_same (A * 2 ^ 149) (d * (2 ^ 149 * 2 ^ j)) A (d * 2 ^ j) (mul-pos D (mul-pos (pow_pos 149) (pow_pos j))) (mul-pos D (pow_pos j)) (cross A (2 ^ 149) d (2 ^ j)))
      ∙ regroup N (2 ^ 149) (2 ^ j) in
      let most : N * 2 ^ j * 2 ^ 149 < overflow binary32 =
      lt_of_lt_of_le (mul-lt-mul_of_pos_right (lt_of_lt_of_le (mul-lt-mul_of_pos_right small (pow_pos j)) (mul-le-mul_left (2 ^ 24) (pow_mono h))) (pow_pos 149)) (lit≤ tt) in
      unscale (round binary32 false A d) false (N * 2 ^ j) (2 ^ 149) (pow_pos 149)
      (subst (λ (z : ℕ). HasValue (round binary32 false A d) false z (2 ^ 149)) g (round_val binary32 A d (subst (λ (z : ℕ). z < overflow binary32) (sym g) most)))
    where
      cross : (a t d z : ℕ) → a * t * (d * z) ≡ a * (d * (t * z))
      cross a t d z = omega arith

      regroup : (n t z : ℕ) → n * (t * z) ≡ n * z * t
      regroup n t z = omega arith

-- the bits of a number that is n units
pub to_bits_at : (m : ℕ) (e : ℤ) (n : ℕ) → m * up e * 2 ^ 149 / down e ≡ n → to_bits binary32 (fin false m e) ≡ 0 + (size n - 24) * 8388608 + n / 2 ^ (size n - 24)
unfolding to_bits
to_bits_at m e n p = ap (λ (x : ℕ). 0 + (size x - 24) * 8388608 + x / 2 ^ (size x - 24)) p

-- N multiples of 2 ^ j have the bits of N above those of an exponent
pub grid_bits : (j : ℕ) (x : Float) (N : ℕ) → 2 ^ 23 ≤ N → N < 2 ^ 24 → HasValue x false (N * 2 ^ j) 1 → to_bits binary32 x ≡ (149 + j) * 8388608 + N
grid_bits j nan N lo hi v = absurd v
grid_bits j (inf s) N lo hi v = absurd v
grid_bits j (fin true m e) N lo hi v = absurd (true≢false v.0)
grid_bits j (fin false m e) N lo hi v =
    let W = N * 2 ^ j in
    let p : 2 ^ (149 + j) ≡ 2 ^ 149 * 2 ^ j = pow-add 2 149 j in
    let n-is : m * up e * 2 ^ 149 / down e ≡ W * 2 ^ 149 =
    ap (λ (x : ℕ). x * 2 ^ 149 / down e) (sym (mul-one (m * up e)) ∙ v.1) ∙ ap (λ (x : ℕ). x / down e) (mul_right_comm W (down e) (2 ^ 149)) ∙ mul-div_cancel (W * 2 ^ 149) (down_pos e) in
    let z : size (W * 2 ^ 149) ≡ 173 + j =
    size_is (W * 2 ^ 149) (172 + j)
    (le_trans (le_of_eq (pow-add 2 172 j ∙ swap (2 ^ 23) (2 ^ 149) (2 ^ j))) (mul-le-mul_right (2 ^ 149) (mul-le-mul_right (2 ^ j) lo)))
    (lt_of_lt_of_le (mul-lt-mul_of_pos_right (mul-lt-mul_of_pos_right hi (pow_pos j)) (pow_pos 149)) (le_of_eq (sym (ap (λ (y : ℕ). 2 ^ y) (next j) ∙ pow-add 2 173 j ∙ swap (2 ^ 24) (2 ^ 149) (2 ^ j)))))
    ∙ next j in
    to_bits_at m e (W * 2 ^ 149) n-is
    ∙ ap (λ (x : ℕ). 0 + (x - 24) * 8388608 + W * 2 ^ 149 / 2 ^ (x - 24)) z
    ∙ ap (λ (x : ℕ). 0 + x * 8388608 + W * 2 ^ 149 / 2 ^ x) (dropped j)
    ∙ ap (λ (x : ℕ). 0 + (149 + j) * 8388608 + x) (ap (λ (x : ℕ). W * 2 ^ 149 / x) p ∙ ap (λ (x : ℕ). x / (2 ^ 149 * 2 ^ j)) (swap' N (2 ^ j) (2 ^ 149)) ∙ mul-div_cancel N (mul-pos (pow_pos 149) (pow_pos j)))
    ∙ last j N
  where
    swap : (q t z : ℕ) → q * t * z ≡ q * z * t
    swap q t z = omega arith

    swap' : (n z t : ℕ) → n * z * t ≡ n * (t * z)
    swap' n z t = omega arith

    last : (j N : ℕ) → 0 + (149 + j) * 8388608 + N ≡ (149 + j) * 8388608 + N
    last j N = omega arith
