-- A value below 2 ^ 24, rounded from its bit pattern.
-- `bits_val` carries it: by the library's `of_bits-to_bits` the digits s and the exponent of the pattern are the value, so that it is
-- s / 2 ^ K, which `up_halves` rounds by a shift. The bounds on the exponent's field are read off the number of digits of the value.
use Rattle.std.proofs.Common.{◌≡◌, refl, sym, ap, ◌∙◌, subst, ℕ, suc, ◌+◌, ◌-◌, ◌*◌, ◌/◌, ◌%◌, ◌^◌, ◌≤◌, ◌<◌, le_of_eq, lt_of_lt_of_le, lt_of_le_of_lt, not-le_of_lt, zero-lt-suc, mul_comm, mul_assoc, mul_right_comm, mul_left_comm, add-mul, mul-pos, mul-lt-mul_of_pos_right, lt_of_mul-lt-mul_right, div-lt_iff_lt-mul, mod-eq_of_lt, arith, Bool, true, false, not, cond, T, ltb, leb, eqb, ltb→lt, nltb→le, leb→le, eqb→eq, pow-add, pow_pos, pow_mono, Float}
use native.Mathlib.Nat.{eq_of_mul-eq-mul_right}
use lib.IntN.{ℤ}
use lib.Dec.{not_T}
use lib.Ieee.{nan, inf, fin, binary32, up, down, size, odd, fits, of_fields, of_bits, to_bits}
use lib.Ieee.Digits.{size-lt, size-le}
use lib.Ieee.Fits.{down_pos, kept-lt}
use lib.Ieee.Bits.{is_false, cond_no, of_bits-to_bits}
use lib.Ieee.Exact.{HasValue, odd_sign}
use lib.Ieee.Nearest.{div_same}
use Rattle.laws.specs.Rounding.{half_up}
use Rattle.laws.proofs.Halves.{below_half, up_halves}
use Rattle.fround.specs.Rounding.{round_clamped}
use Rattle.laws.proofs.Grids.{to_bits_at}
use Rattle.fround.proofs.Limits.{Limited}

-- ---- the number that a pattern of a positive normal value stands for
of_bits_is : (b : ℕ) → of_bits binary32 b ≡ of_fields binary32 (leb 2147483648 b) (b % 2147483648 / 8388608) (b % 8388608)
unfolding of_bits
of_bits_is b = refl

differ : (x : ℕ) → suc x < 255 → suc x ≡ 255 → ⊥
differ x h e = omega arith

under_ones : (t x : ℕ) → suc x < 255 → of_fields binary32 false (suc x) t ≡ odd 24 false (8388608 + t) x 149
unfolding of_fields
under_ones t x h = cond_no (eqb (suc x) 255) (cond (eqb t 0) (inf false) nan) (odd 24 false (8388608 + t) x 149) (not_T (eqb (suc x) 255) (λ (u : T (eqb (suc x) 255)). differ x h (eqb→eq (suc x) 255 u)))

small : (b : ℕ) → b < 2139095040 → b < 2147483648
small b h = omega arith

field : (b : ℕ) → 8388608 ≤ b → suc (b / 8388608 - 1) ≡ b / 8388608
field b h = omega arith

field_lt : (b : ℕ) → 8388608 ≤ b → b < 2139095040 → suc (b / 8388608 - 1) < 255
field_lt b h k = omega arith

normal : (b : ℕ) → 8388608 ≤ b → b < 2139095040 → of_bits binary32 b ≡ odd 24 false (8388608 + b % 8388608) (b / 8388608 - 1) 149
normal b h k =
    of_bits_is b
    ∙ ap (λ (s : Bool). of_fields binary32 s (b % 2147483648 / 8388608) (b % 8388608)) (is_false (leb 2147483648 b) (not_T (leb 2147483648 b) (λ (u : T (leb 2147483648 b)). not-le_of_lt (small b k) (leb→le 2147483648 b u))))
    ∙ ap (λ (x : ℕ). of_fields binary32 false (x / 8388608) (b % 8388608)) (mod-eq_of_lt (small b k))
    ∙ ap (λ (x : ℕ). of_fields binary32 false x (b % 8388608)) (sym (field b h))
    ∙ under_ones (b % 8388608) (b / 8388608 - 1) (field_lt b h k)

bits_val : (m : ℕ) (e : ℤ) (b : ℕ) → T (fits binary32 (fin false m e)) → to_bits binary32 (fin false m e) ≡ b → 8388608 ≤ b → b < 2139095040
    → m * up e * 2 ^ 149 ≡ (8388608 + b % 8388608) * 2 ^ (b / 8388608 - 1) * down e
bits_val m e b f p h k =
    let x : of_bits binary32 b ≡ fin false m e = ap (of_bits binary32) (sym p) ∙ of_bits-to_bits binary32 (fin false m e) f in
    let v : HasValue (fin false m e) false ((8388608 + b % 8388608) * 2 ^ (b / 8388608 - 1)) (2 ^ 149) =
    subst (λ (z : Float). HasValue z false ((8388608 + b % 8388608) * 2 ^ (b / 8388608 - 1)) (2 ^ 149)) (sym (normal b h k) ∙ x) (odd_sign 24 false (8388608 + b % 8388608) (b / 8388608 - 1) 149) in
    v.1

-- ---- the pattern of a value below 2 ^ 24
units_lt : (a d : ℕ) → 0 < d → a < 16777216 * d → a * 2 ^ 149 / d < 2 ^ 173
units_lt a d D h = (div-lt_iff_lt-mul D).1 (lt_of_lt_of_le (mul-lt-mul_of_pos_right h (pow_pos 149)) (le_of_eq (mul_right_comm 16777216 d (2 ^ 149))))

spare : (z : ℕ) → z ≤ 173 → z - 24 ≤ 149
spare z h = omega arith

last : (b k w : ℕ) → b ≡ 0 + k * 8388608 + w → k ≤ 149 → w < 16777216 → b / 8388608 ≤ 150
last b k w e h g = omega arith

pub exponent_le : (m : ℕ) (e : ℤ) → m * up e < 16777216 * down e → to_bits binary32 (fin false m e) / 8388608 ≤ 150
exponent_le m e h =
    let n = m * up e * 2 ^ 149 / down e in
    last (to_bits binary32 (fin false m e)) (size n - 24) (n / 2 ^ (size n - 24)) (to_bits_at m e n refl) (spare (size n) (size-le n 173 (units_lt (m * up e) (down e) (down_pos e) h))) (kept-lt 24 n)

-- ---- below one half
first : (b k w : ℕ) → b ≡ 0 + k * 8388608 + w → b / 8388608 < 126 → 125 ≤ k → (k ≡ 125) × (w < 8388608)
first b k w e h g = omega arith

few : (z : ℕ) → z - 24 < 125 → z ≤ 148
few z h = omega arith

tiny : (n b : ℕ) → b ≡ 0 + (size n - 24) * 8388608 + n / 2 ^ (size n - 24) → b / 8388608 < 126 → n < 2 ^ 148
tiny n b e h = go (ltb (size n - 24) 125) (ltb→lt (size n - 24) 125) (nltb→le (size n - 24) 125)
  where
    go : (t : Bool) → (T t → size n - 24 < 125) → (T (not t) → 125 ≤ size n - 24) → n < 2 ^ 148
    go true p q = lt_of_lt_of_le (size-lt n) (pow_mono (few (size n) (p tt)))
    go false p q =
        let r = first b (size n - 24) (n / 2 ^ (size n - 24)) e h (q tt) in
        (div-lt_iff_lt-mul (pow_pos 125)).0 (subst (λ (z : ℕ). n / 2 ^ z < 8388608) r.0 r.1)

pub rounds_to_zero : (m : ℕ) (e : ℤ) → to_bits binary32 (fin false m e) / 8388608 < 126 → half_up (m * up e) (down e) ≡ 0
rounds_to_zero m e h =
    let n = m * up e * 2 ^ 149 / down e in
    let l : n < 2 ^ 148 = tiny n (to_bits binary32 (fin false m e)) (to_bits_at m e n refl) h in
    let g : m * up e * 2 ^ 149 < 2 ^ 148 * down e = (div-lt_iff_lt-mul (down_pos e)).0 l in
    below_half (m * up e) (down e) 0 (m * up e) (omega arith)
    (lt_of_mul-lt-mul_right (2 ^ 148) (lt_of_le_of_lt (le_of_eq (mul_assoc (m * up e) 2 (2 ^ 148))) (lt_of_lt_of_le g (le_of_eq (mul_comm (2 ^ 148) (down e))))))

-- ---- from one half up: the digits s, 2 ^ K of which are one
twice_cross : (a d s P : ℕ) → a * P ≡ s * d → (2 * a + d) * (2 * P) ≡ (2 * s + P) * (2 * d)
twice_cross a d s P h =
    let l : (2 * a + d) * (2 * P) ≡ 2 * a * (2 * P) + d * (2 * P) = add-mul (2 * a) d (2 * P) in
    let r : (2 * s + P) * (2 * d) ≡ 2 * s * (2 * d) + P * (2 * d) = add-mul (2 * s) P (2 * d) in
    let x : 2 * a * (2 * P) ≡ 2 * (2 * (a * P)) = mul_assoc 2 a (2 * P) ∙ ap (λ (z : ℕ). 2 * z) (mul_left_comm a 2 P) in
    let y : 2 * s * (2 * d) ≡ 2 * (2 * (s * d)) = mul_assoc 2 s (2 * d) ∙ ap (λ (z : ℕ). 2 * z) (mul_left_comm s 2 d) in
    let u : d * (2 * P) ≡ 2 * (d * P) = mul_left_comm d 2 P in
    let w : P * (2 * d) ≡ 2 * (d * P) = mul_left_comm P 2 d ∙ ap (λ (z : ℕ). 2 * z) (mul_comm P d) in
    omega arith

exps : (E : ℕ) → 126 ≤ E → E ≤ 150 → (150 - E) + (E - 1) ≡ 149
exps E h k = omega arith

at_least : (b : ℕ) → 126 ≤ b / 8388608 → 8388608 ≤ b
at_least b h = omega arith

at_most : (b : ℕ) → b / 8388608 ≤ 150 → b < 2139095040
at_most b h = omega arith

pub rounds_by_bits : (m : ℕ) (e : ℤ) (b : ℕ) → T (fits binary32 (fin false m e)) → to_bits binary32 (fin false m e) ≡ b → 126 ≤ b / 8388608 → b / 8388608 ≤ 150
    → half_up (m * up e) (down e) ≡ ((8388608 + b % 8388608) * 2 / 2 ^ (150 - b / 8388608) + 1) / 2
rounds_by_bits m e b f p lo hi =
    let a = m * up e in
    let d = down e in
    let E = b / 8388608 in
    let s = 8388608 + b % 8388608 in
    let P = 2 ^ (150 - E) in
    let Q = 2 ^ (E - 1) in
    let v : a * 2 ^ 149 ≡ s * Q * d = bits_val m e b f p (at_least b lo) (at_most b hi) in
    let PQ : P * Q ≡ 2 ^ 149 = sym (pow-add 2 (150 - E) (E - 1)) ∙ ap (λ (x : ℕ). 2 ^ x) (exps E lo hi) in
    let cross : a * P ≡ s * d =
    eq_of_mul-eq-mul_right Q (pow_pos (E - 1)) (a * P) (s * d) (mul_assoc a P Q ∙ ap (λ (x : ℕ). a * x) PQ ∙ v ∙ mul_right_comm s Q d) in
    div_same (2 * a + d) (2 * d) (2 * s + P) (2 * P) (mul-pos (zero-lt-suc 1) (down_pos e)) (mul-pos (zero-lt-suc 1) (pow_pos (150 - E))) (twice_cross a d s P cross)
    ∙ up_halves s P (pow_pos (150 - E))

-- ---- at a limited value
below : (a d max : ℕ) → 0 < d → max < 16777216 → a ≤ max * d → a < 16777216 * d
below a d max D h k = lt_of_le_of_lt k (mul-lt-mul_of_pos_right h D)

pub field_le : (x c : Float) (max : ℕ) → max < 16777216 → Limited max x c → to_bits binary32 c / 8388608 ≤ 150
field_le x c max h L = subst (λ (z : Float). to_bits binary32 z / 8388608 ≤ 150) (sym L.is) (exponent_le L.m L.e (below (L.m * up L.e) (down L.e) max (down_pos L.e) h L.within))

pub low_field : (x c : Float) (max : ℕ) → Limited max x c → to_bits binary32 c / 8388608 < 126 → 0 ≡ round_clamped max x
low_field x c max L h = sym (rounds_to_zero L.m L.e (subst (λ (z : Float). to_bits binary32 z / 8388608 < 126) L.is h)) ∙ L.rounds

pub high_field : (x c : Float) (max : ℕ) → max < 16777216 → Limited max x c → 126 ≤ to_bits binary32 c / 8388608
    → ((8388608 + to_bits binary32 c % 8388608) * 2 / 2 ^ (150 - to_bits binary32 c / 8388608) + 1) / 2 ≡ round_clamped max x
high_field x c max h L g = sym (rounds_by_bits L.m L.e (to_bits binary32 c) L.fits' (ap (to_bits binary32) (sym L.is)) g (field_le x c max h L)) ∙ L.rounds
