-- A number read digit by digit: what the loop holds, and why a value past 65,536 may be held as 65,536.
use Rattle.std.proofs.Common.{◌≡◌, refl, sym, ap, ◌∙◌, true, false, List, [], ◌∷◌, ℕ, ◌+◌, ◌-◌, ◌*◌, min, ◌≤◌, add-one, arith, get_or, take, drop, drop-cons}
use Rattle.netpbm.specs.declared.scan.Number.{Number}
use Rattle.netpbm.specs.Bytes.{decimal_of, has_digit, digits_at, past_digits, number_at}
use Rattle.netpbm.specs.Inner.Held.{held, number_held}
use Rattle.netpbm.proofs.Runs.{digit_inside, digits_more, digits_end, past_more, past_end}

-- numbers that are held alike are so with more digits behind them
held_digits : (n m : ℕ) (ds : List ℕ) → held n ≡ held m → held (decimal_of n ds) ≡ held (decimal_of m ds)
unfolding decimal_of
held_digits n m [] e = e
held_digits n m (d ∷ ds) e = held_digits (n * 10 + (d - 48)) (m * 10 + (d - 48)) ds (more n m (d - 48) e)
  where
    more : (n m d : ℕ) → held n ≡ held m → held (n * 10 + d) ≡ held (m * 10 + d)
    more n m d e = omega arith

-- the digits at a place
abbrev digits : List ℕ → ℕ → List ℕ
digits s at = take (digits_at s at) (drop at s)

one_digit : (s : List ℕ) (at : ℕ) → has_digit s at ≡ true → digits s at ≡ get_or s at 0 ∷ digits s (at + 1)
one_digit s at e = rw (digits_more s at e, drop-cons s at 0 (digit_inside s at e), add-one) refl

-- the loop: `value` is held of the digits from `at` to `end`, and what is left to read makes the number
pub record Counting (s : List ℕ) (at end value : ℕ) : Type 0 where
  pub most : value ≤ 65536
  pub same : past_digits s end ≡ past_digits s at
  pub left : held (decimal_of value (digits s end)) ≡ held (number_at s at)

pub counting_none : (s : List ℕ) (at : ℕ) → Counting s at at 0
unfolding number_at
counting_none s at = record { most = omega arith; same = refl; left = refl }

pub counting_more : {s : List ℕ} {at end value : ℕ} → Counting s at end value → has_digit s end ≡ true → (d v : ℕ) → d ≡ get_or s end 0 - 48 → v ≡ min (value * 10 + d) 65536 → Counting s at (end + 1) v
unfolding decimal_of
counting_more {s} {at} {end} {value} c e d v g f =
    record {
      most = omega arith;
      same = sym (past_more s end e) ∙ c.same;
      left =
          held_digits v (value * 10 + (get_or s end 0 - 48)) (digits s (end + 1)) (omega arith)
          ∙ sym (ap (λ (ds : List ℕ). held (decimal_of value ds)) (one_digit s end e))
          ∙ c.left;
    }

pub counting_end : {s : List ℕ} {at end value : ℕ} → Counting s at end value → has_digit s end ≡ false → (r : Number) → r.value ≡ value → r.end ≡ end → r ≡ number_held s at
unfolding number_held decimal_of
counting_end {s} {at} {end} {value} c e r v f =
    let d : held value ≡ held (number_at s at) = sym (ap (λ (k : ℕ). held (decimal_of value (take k (drop end s)))) (digits_end s end e)) ∙ c.left in
    let m = c.most in
    let a : r.value ≡ held (number_at s at) = omega arith in
    let b : r.end ≡ past_digits s at = f ∙ sym (past_end s end e) ∙ c.same in
    rw (a, b) refl
