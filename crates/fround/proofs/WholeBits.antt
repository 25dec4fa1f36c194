-- A whole number below 2 ^ 23 as a float, made from bits: put behind the bits of 2 ^ 23 it is the float 2 ^ 23 + n, less 2 ^ 23 exactly n.
use Rattle.std.proofs.Common.{◌≡◌, refl, sym, ap, ◌∙◌, ℕ, ◌+◌, ◌-◌, ◌*◌, ◌<◌, arith, Float, zero-lt-suc, subst, mul-one, false, pos, Bool, not, T}
use lib.Ieee.{binary32, of_bits, to_bits, of_int, sub, round, nan_bits, is_nan}
use lib.Ieee.Bits.{of_bits-to_bits, nan_bits_is}
use lib.Ieee.Exact.{HasValue}
use lib.Ieee.Fits.{of_int-fits}
use Rattle.laws.specs.Floats.{f32}
use Rattle.laws.proofs.Values.{whole_value, value_no_nan, sub_ge}
use Rattle.laws.proofs.Grids.{grid_bits}
use Rattle.fround.proofs.OnGrid.{two23}

behind : (n : ℕ) → n < 8388608 → of_bits binary32 (1258291200 + n) ≡ f32 (8388608 + n)
behind n h =
    let x = f32 (8388608 + n) in
    let b : to_bits binary32 x ≡ 1258291200 + n = grid_bits 0 x (8388608 + n) (omega arith) (omega arith) (subst (λ (k : ℕ). HasValue x false k 1) (sym (mul-one (8388608 + n))) (whole_value (8388608 + n) (omega arith))) ∙ sum_is n in
    ap (of_bits binary32) (sym b) ∙ of_bits-to_bits binary32 x (of_int-fits binary32 (pos (8388608 + n)))
  where
    sum_is : (n : ℕ) → (149 + 0) * 8388608 + (8388608 + n) ≡ 1258291200 + n
    sum_is n = omega arith

pub whole_bits : (n : ℕ) → n < 8388608 → sub binary32 (of_bits binary32 (1258291200 + n)) two23 ≡ f32 n
unfolding of_int
whole_bits n h =
    ap (λ (x : Float). sub binary32 x two23) (behind n h)
    ∙ sub_ge binary32 (f32 (8388608 + n)) two23 (8388608 + n) 1 8388608 1 (zero-lt-suc 0) (zero-lt-suc 0) (whole_value (8388608 + n) (omega arith)) (refl, refl) (omega arith)
    ∙ ap (λ (k : ℕ). round binary32 false k 1) (less n)
  where
    less : (n : ℕ) → (8388608 + n) * 1 - 8388608 * 1 ≡ n
    less n = omega arith

-- those bits are no not-a-number's
pub no_nan : (n : ℕ) → n < 8388608 → T (not (nan_bits binary32 (1258291200 + n)))
no_nan n h = subst (λ (b : Bool). T (not b)) (sym (nan_bits_is binary32 (1258291200 + n) ∙ ap is_nan (behind n h))) (value_no_nan (f32 (8388608 + n)) false (8388608 + n) 1 (whole_value (8388608 + n) (omega arith)))
