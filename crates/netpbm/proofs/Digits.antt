-- The digits of a number by how many there are, and that they are the number's.
-- Spelled out they follow by unfolding up to four times. Read back they are the number by induction on how many there are: a digit more
-- at the end is ten times the number and the digit (`decimal_last`), and the number's tenth has one digit less (`shorter`).
use Rattle.std.proofs.Common.{◌≡◌, refl, Bool, true, false, cond, List, [], ◌∷◌, ◌++◌, ℕ, zero, suc, ◌+◌, ◌-◌, ◌*◌, ◌/◌, ◌%◌, ◌^◌, ◌≤◌, ◌<◌, div-lt_iff_lt-mul, pow-suc, arith, ltb, length, get_or, length-append, ltb-true, ltb-false, lt-ltb, le-ltb}
use Rattle.netpbm.specs.Bytes.{decimal_of}
use Rattle.netpbm.specs.Lines.{digits, digits_of, ppm_header, refusal_line}

module _ (n : ℕ) where
  pub one_digit : n < 10 → digits_of n ≡ (48 + n) ∷ []
  unfolding digits_of digits
  one_digit l = rw (lt-ltb n 10 l) refl

  pub two_digits : 10 ≤ n → n < 100 → digits_of n ≡ (48 + n / 10) ∷ (48 + n % 10) ∷ []
  unfolding digits_of digits
  two_digits g l = rw (le-ltb n 10 g, lt-ltb (n / 10) 10 (omega arith)) refl

  pub three_digits : 100 ≤ n → n < 1000 → digits_of n ≡ (48 + n / 100) ∷ (48 + n / 10 % 10) ∷ (48 + n % 10) ∷ []
  unfolding digits_of digits
  three_digits g l =
      let e : n / 10 / 10 ≡ n / 100 = omega arith in
      rw (le-ltb n 10 (omega arith), le-ltb (n / 10) 10 (omega arith), e, lt-ltb (n / 100) 10 (omega arith)) refl

  pub four_digits : 1000 ≤ n → n < 10000 → digits_of n ≡ (48 + n / 1000) ∷ (48 + n / 100 % 10) ∷ (48 + n / 10 % 10) ∷ (48 + n % 10) ∷ []
  unfolding digits_of digits
  four_digits g l =
      let e : n / 10 / 10 ≡ n / 100 = omega arith in
      let f : n / 100 / 10 ≡ n / 1000 = omega arith in
      rw (le-ltb n 10 (omega arith), le-ltb (n / 10) 10 (omega arith), e, le-ltb (n / 100) 10 (omega arith), f, lt-ltb (n / 1000) 10 (omega arith)) refl

-- `digits k` gives k digits at most
digits_most : (k n : ℕ) → length (digits k n) ≤ k
unfolding digits
digits_most zero n = omega arith
digits_most (suc k) n = go (ltb n 10) (digits_most k (n / 10))
  where
    go : (t : Bool) → length (digits k (n / 10)) ≤ k → length (cond t ((48 + n) ∷ []) (digits k (n / 10) ++ ((48 + n % 10) ∷ []))) ≤ suc k
    go true h = omega arith
    go false h = simp length-append (omega arith)

pub four_most : (n : ℕ) → length (digits_of n) ≤ 4
unfolding digits_of
four_most n = digits_most 4 n

-- a number below 1,000 has three digits at most
pub three_most : (n : ℕ) → n < 1000 → length (digits_of n) ≤ 3
three_most n l = go (ltb n 10) (ltb n 100) (ltb-true n 10) (ltb-false n 10) (ltb-true n 100) (ltb-false n 100)
  where
    go : (t u : Bool) → (t ≡ true → n < 10) → (t ≡ false → 10 ≤ n) → (u ≡ true → n < 100) → (u ≡ false → 100 ≤ n) → length (digits_of n) ≤ 3
    go true u f f' g g' = rw (one_digit n (f refl)) (omega arith)
    go false true f f' g g' = rw (two_digits n (f' refl) (g refl)) (omega arith)
    go false false f f' g g' = rw (three_digits n (g' refl) l) (omega arith)

-- ---- the lines fit

pub header_most : (w h : ℕ) → w ≤ 128 → length (ppm_header w h) ≤ 16
unfolding ppm_header
header_most w h l = simp length-append (omega (arith, three_most w (omega arith), four_most h))

pub refusal_most : (n : ℕ) → n < 1000 → length (refusal_line n) ≤ 12
unfolding refusal_line
refusal_most n l = simp length-append (omega (arith, three_most n l))

-- ---- read back, the digits are the number

shorter : (k n : ℕ) → n < 10 ^ suc k → n / 10 < 10 ^ k
shorter k n l = let p : 0 < 10 = omega arith in (div-lt_iff_lt-mul p).1 (rw pow-suc at l)

decimal_last : (k : ℕ) (ds : List ℕ) (d : ℕ) → decimal_of k (ds ++ (d ∷ [])) ≡ decimal_of k ds * 10 + (d - 48)
unfolding decimal_of
decimal_last k [] d = refl
decimal_last k (e ∷ ds) d = decimal_last (k * 10 + (e - 48)) ds d

digits_back : (k n : ℕ) → n < 10 ^ k → decimal_of 0 (digits k n) ≡ n
unfolding digits decimal_of
digits_back zero n l = omega arith
digits_back (suc k) n l = go (ltb n 10) (digits_back k (n / 10) (shorter k n l))
  where
    go : (t : Bool) → decimal_of 0 (digits k (n / 10)) ≡ n / 10 → decimal_of 0 (cond t ((48 + n) ∷ []) (digits k (n / 10) ++ ((48 + n % 10) ∷ []))) ≡ n
    go true h = omega arith
    go false h = let e = decimal_last 0 (digits k (n / 10)) (48 + n % 10) in omega arith

pub digits_read : (n : ℕ) → n < 10000 → decimal_of 0 (digits_of n) ≡ n
unfolding digits_of
digits_read n l = digits_back 4 n l

-- no zero stands in front of a number's digits, unless the number is 0
digits_front : (k n : ℕ) → 0 < n → n < 10 ^ k → 48 < get_or (digits k n) 0 0
unfolding digits
digits_front zero n p l = absurd (omega arith)
digits_front (suc k) n p l = go (ltb n 10) (ltb-false n 10) (λ q. digits_front k (n / 10) q (shorter k n l))
  where
    front : (ds es : List ℕ) → 48 < get_or ds 0 0 → 48 < get_or (ds ++ es) 0 0
    front [] es h = absurd (omega arith)
    front (d ∷ ds) es h = h

    go : (t : Bool) → (t ≡ false → 10 ≤ n) → (0 < n / 10 → 48 < get_or (digits k (n / 10)) 0 0) → 48 < get_or (cond t ((48 + n) ∷ []) (digits k (n / 10) ++ ((48 + n % 10) ∷ []))) 0 0
    go true f h = omega arith
    go false f h = let g = f refl in front (digits k (n / 10)) _ (h (omega arith))

pub no_zero : (n : ℕ) → 0 < n → n < 10000 → 48 < get_or (digits_of n) 0 0
unfolding digits_of
no_zero n p l = digits_front 4 n p l
