-- Laws of halves up, and against the ties to even of IEEE rounding (`closest`). Whole numbers alone: no floats here.
-- All are read off the whole part and the remainder of a / d, in three cases: the remainder below, at or above one half. The hard one is
-- `side`: at a tie `closest` goes up or down by whether the whole part is odd, and halves up goes up in both.
use Rattle.std.proofs.Common.{◌≡◌, refl, sym, ap, ◌∙◌, subst, ℕ, zero, suc, ◌+◌, ◌-◌, ◌*◌, ◌/◌, ◌%◌, ◌≤◌, ◌<◌, mul_left_comm, mul_comm, one-mul, suc-mul, mul-pos, zero-lt-suc, le_of_suc-le-suc, le-div_iff_mul-le, div-lt_iff_lt-mul, div-add-mod', mod-lt, mul-le-mul_right, arith, not, T, eqb, leb→le, eqb→eq}
use Prim.Native.Nat.{compare, Ordering}
use native.Mathlib.Nat.{div-div-eq-div-mul, add-mul-div_right, add-mul-mod_self_right}
use lib.Dec.{is_le, compare_is_eq, nleb→lt, eqb_refl}
use lib.Arith.{lt_of_le-ne, digits_div}
use lib.Ieee.{nearest}
use lib.Ieee.Nearest.{closest, div_mono}
use Rattle.laws.specs.Rounding.{half_up}

-- ---- halves up by the whole part w and the remainder r

pub below_half : (a d w r : ℕ) → w * d + r ≡ a → r * 2 < d → half_up a d ≡ w
below_half a d w r e h =
    let p : w * (2 * d) ≡ 2 * (w * d) = mul_left_comm w 2 d in
    let q : 2 * a + d ≡ w * (2 * d) + (2 * r + d) = omega arith in
    let l : 2 * r + d < 2 * d = omega arith in
    ap (λ (x : ℕ). x / (2 * d)) q ∙ digits_div w l

half_or_more : (a d w r : ℕ) → w * d + r ≡ a → d ≤ r * 2 → r < d → half_up a d ≡ suc w
half_or_more a d w r e h g =
    let p : suc w * (2 * d) ≡ w * (2 * d) + 2 * d = suc-mul w (2 * d) in
    let p' : w * (2 * d) ≡ 2 * (w * d) = mul_left_comm w 2 d in
    let q : 2 * a + d ≡ suc w * (2 * d) + (2 * r - d) = omega arith in
    let l : 2 * r - d < 2 * d = omega arith in
    ap (λ (x : ℕ). x / (2 * d)) q ∙ digits_div (suc w) l

-- ---- halves up against a whole bound, and against another fraction

pub up_le : (a d M : ℕ) → 0 < d → a ≤ M * d → half_up a d ≤ M
up_le a d M D h =
    let p : suc M * (2 * d) ≡ 2 * (M * d) + 2 * d = mul_left_comm (suc M) 2 d ∙ ap (λ (x : ℕ). 2 * x) (suc-mul M d) ∙ twice (M * d) d in
    le_of_suc-le-suc ((div-lt_iff_lt-mul (mul-pos (zero-lt-suc 1) D)).1 (omega arith))
  where
    twice : (x y : ℕ) → 2 * (x + y) ≡ 2 * x + 2 * y
    twice x y = omega arith

pub up_ge : (a d M : ℕ) → 0 < d → M * d ≤ a → M ≤ half_up a d
up_ge a d M D h =
    let p : M * (2 * d) ≡ 2 * (M * d) = mul_left_comm M 2 d in
    (le-div_iff_mul-le (mul-pos (zero-lt-suc 1) D)).1 (omega arith)

-- a whole number rounds to itself
pub up_whole : (a d M : ℕ) → 0 < d → a ≡ M * d → half_up a d ≡ M
up_whole a d M D e = below_half a d M 0 (omega arith) (omega arith)

-- a larger fraction rounds to no smaller number
pub up_mono : (a d b c : ℕ) → 0 < d → 0 < c → a * c ≤ b * d → half_up a d ≤ half_up b c
up_mono a d b c D C h =
    div_mono (2 * a + d) (2 * d) (2 * b + c) (2 * c) (mul-pos (zero-lt-suc 1) D) (mul-pos (zero-lt-suc 1) C) (cross h)
  where
    cross : a * c ≤ b * d → (2 * a + d) * (2 * c) ≤ (2 * b + c) * (2 * d)
    cross h = omega arith

-- halves up as one more than twice, halved: what a shift by the fraction's digits leaves
pub up_halves : (s P : ℕ) → 0 < P → half_up s P ≡ (s * 2 / P + 1) / 2
up_halves s P h =
    ap (λ (x : ℕ). (2 * s + P) / x) (mul_comm 2 P)
    ∙ sym (div-div-eq-div-mul (2 * s + P) P 2)
    ∙ ap (λ (x : ℕ). x / 2) (ap (λ (x : ℕ). (x + P) / P) (mul_comm 2 s) ∙ ap (λ (x : ℕ). (s * 2 + x) / P) (sym (one-mul P)) ∙ add-mul-div_right (s * 2) 1 h)

-- ---- comparing as data

abbrev pub Cmp : Ordering → ℕ → ℕ → Type 0
Cmp Ordering.lt a b = a < b
Cmp Ordering.eq a b = a ≡ b
Cmp Ordering.gt a b = b < a

pub cmp : (a b : ℕ) → Cmp (compare a b) a b
cmp a b = go (compare a b) (leb→le a b) (nleb→lt a b) (eqb→eq a b) (λ (e : a ≡ b). subst (λ (x : ℕ). T (eqb a x)) e (eqb_refl a))
  where
    go : (o : Ordering) → (T (is_le o) → a ≤ b) → (T (not (is_le o)) → b < a) → (T (compare_is_eq o) → a ≡ b) → (a ≡ b → T (compare_is_eq o)) → Cmp o a b
    go Ordering.lt h k e n = lt_of_le-ne (h tt) n
    go Ordering.eq h k e n = e tt
    go Ordering.gt h k e n = k tt

-- ---- with N the nearest to a / d, ties to even: halves up is N, and one more exactly where a / d lies half above N

pub data Side (a d N : ℕ) : Type 0 where
  over : a < N * d → half_up a d ≡ N → Side a d N
  tie : N * d ≤ a → (a - N * d) * 2 ≡ d → half_up a d ≡ suc N → Side a d N
  near : N * d ≤ a → (a - N * d) * 2 < d → half_up a d ≡ N → Side a d N

even_or_odd : (w : ℕ) → (P : ℕ → Type 0) → (w % 2 ≡ 0 → P w) → (w % 2 ≡ 1 → P (suc w)) → P (w + w % 2)
even_or_odd w P f g = go (w % 2) refl (lt2 w)
  where
    lt2 : (x : ℕ) → x % 2 < 2
    lt2 x = omega arith

    add0 : (x : ℕ) → x ≡ x + 0
    add0 x = omega arith

    add1 : (x : ℕ) → suc x ≡ x + 1
    add1 x = omega arith

    no : (x : ℕ) → suc (suc x) < 2 → ⊥
    no x h = omega arith

    go : (r : ℕ) → w % 2 ≡ r → r < 2 → P (w + r)
    go zero e h = subst P (add0 w) (f e)
    go (suc zero) e h = subst P (add1 w) (g e)
    go (suc (suc r)) e h = absurd (no r h)

pub side : (a d : ℕ) → 0 < d → Side a d (closest a d)
side a d D = go (compare (a % d * 2) d) (cmp (a % d * 2) d)
  where
    e : a / d * d + a % d ≡ a
    e = div-add-mod' a d

    l : a % d < d
    l = mod-lt a D

    up_over : d ≤ a % d * 2 → Side a d (suc (a / d))
    up_over h = over (let p : suc (a / d) * d ≡ a / d * d + d = suc-mul (a / d) d in let e' = e in let l' = l in omega arith) (half_or_more a d (a / d) (a % d) e h l)

    at : a - a / d * d ≡ a % d
    at = let e' = e in omega arith

    fits : a / d * d ≤ a
    fits = let e' = e in omega arith

    go : (o : Ordering) → Cmp o (a % d * 2) d → Side a d (nearest (a / d) o)
    go Ordering.lt c = near fits (subst (λ (x : ℕ). x * 2 < d) (sym at) c) (below_half a d (a / d) (a % d) e c)
    go Ordering.eq c =
        let h : d ≤ a % d * 2 = omega arith in
        even_or_odd (a / d) (Side a d)
        (λ _. tie fits (ap (λ (x : ℕ). x * 2) at ∙ c) (half_or_more a d (a / d) (a % d) e h l))
        (λ _. up_over h)
    go Ordering.gt c = up_over (let c' = c in omega arith)

-- k whole ones more, k even
nearest_shift : (k w : ℕ) (o : Ordering) → k % 2 ≡ 0 → nearest (w + k) o ≡ k + nearest w o
nearest_shift k w Ordering.lt h = omega arith
nearest_shift k w Ordering.eq h = omega arith
nearest_shift k w Ordering.gt h = omega arith

pub closest_shift : (k a d : ℕ) → k % 2 ≡ 0 → 0 < d → closest (a + k * d) d ≡ k + closest a d
closest_shift k a d h D =
    ap (λ (x : ℕ). nearest x (compare ((a + k * d) % d * 2) d)) (add-mul-div_right a k D)
    ∙ ap (λ (x : ℕ). nearest (a / d + k) (compare (x * 2) d)) (add-mul-mod_self_right a k d)
    ∙ nearest_shift k (a / d) (compare (a % d * 2) d) h

-- ---- the nearest is off by half a unit at most

-- x is a, give or take half of b
pub record Half (x a b : ℕ) : Type 0 where
  pub hi : 2 * x ≤ 2 * a + b
  pub lo : 2 * a ≤ 2 * x + b

at_tie : (q b r x : ℕ) → x ≤ 1 → r * 2 ≡ b → Half ((q + x) * b) (q * b + r) b
at_tie q b r x l h = omega (arith, mul-le-mul_right b l)

one_at_most : (q : ℕ) → q % 2 ≤ 1
one_at_most q = omega arith

half : (q r b : ℕ) (o : Ordering) → r < b → Cmp o (r * 2) b → Half (nearest q o * b) (q * b + r) b
half q r b Ordering.lt l h = omega arith
half q r b Ordering.eq l h = at_tie q b r (q % 2) (one_at_most q) h
half q r b Ordering.gt l h = omega arith

pub closest_half : (a b : ℕ) → 0 < b → Half (closest a b * b) a b
closest_half a b z = subst (λ (y : ℕ). Half (closest a b * b) y b) (div-add-mod' a b) (half (a / b) (a % b) b (compare (a % b * 2) b) (mod-lt a z) (cmp (a % b * 2) b))
