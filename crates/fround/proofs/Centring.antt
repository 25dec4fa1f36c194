-- Halves up from two sums on the grid: ties go to even in c + 2 ^ 23, and to odd in c + (2 ^ 23 + 1) - 1, so that the larger went up.
-- The fact is `both`, over whole numbers, by the three orders of the remainder and a half. The rest carries it through the sums, the
-- larger of two floats (`max_val`) and the last difference, whose sign `less_centre` splits on.
use Rattle.std.proofs.Common.{◌≡◌, refl, sym, ap, ◌∙◌, subst, ℕ, ◌+◌, ◌-◌, ◌*◌, ◌/◌, ◌%◌, ◌≤◌, ◌<◌, max, le_trans, le_of_eq, zero-lt-suc, mul-one, div-add-mod', mod-lt, arith, Bool, true, false, not, cond, T, ltb, ltb→lt, nltb→le, mul-le-mul_right, Float}
use Prim.Native.Nat.{compare, Ordering}
use native.Mathlib.Nat.{add-mul-div_right, add-mul-mod_self_right}
use lib.IntN.{ℤ, pos}
use lib.Ieee.{fin, binary32, up, down, nearest, round, lt, fits, is_nan, to_bits}
use lib.Ieee.Fits.{down_pos, mul-fits}
use lib.Ieee.Back.{round_whole}
use lib.Ieee.Exact.{HasValue}
use lib.Ieee.Nearest.{closest, closest_mono}
use Rattle.laws.specs.Floats.{f32, ◌⊕◌, ◌⊖◌, ◌⊗◌}
use Rattle.laws.specs.Rounding.{half_up}
use Rattle.laws.proofs.Halves.{Cmp, cmp, up_le, up_mono, below_half, closest_shift}
use Rattle.laws.proofs.Operators.{sub_up, sub_down}
use Rattle.laws.proofs.Values.{whole_value, values_compare, value_no_nan}
use Rattle.laws.proofs.Grids.{grid_bits}
use Rattle.fround.specs.Rounding.{fmax, round_clamped}
use Rattle.fround.specs.Inner.Rounding.{clamped, higher}
use Rattle.fround.proofs.Laws.{round_within}
use Rattle.fround.proofs.Limits.{Limited, limited}
use Rattle.fround.proofs.OnGrid.{two23, t_val, two23_val}

-- 2 ^ 23 + 1, 1, and 2 ^ 23 + 32,768
abbrev pub odd23 : Float
odd23 = fin false 8388609 (pos 0)

abbrev pub one : Float
one = fin false 1 (pos 0)

abbrev pub centre : Float
centre = fin false 257 (pos 15)

-- ---- of the nearest to a / d, and of the nearest to one more, less one, the larger is what halves up gives

abbrev upward : Ordering → ℕ
upward Ordering.lt = 0
upward Ordering.eq = 1
upward Ordering.gt = 1

larger : (w : ℕ) (o : Ordering) → max (nearest w o) (nearest (w + 1) o - 1) ≡ w + upward o
larger w Ordering.lt = omega arith
larger w Ordering.eq = omega arith
larger w Ordering.gt = omega arith

-- a half or more goes up
rises : (a d w r : ℕ) → w * d + r ≡ a → d ≤ r * 2 → r < d → half_up a d ≡ w + 1
rises a d w r e h g =
    let D : 0 < d = omega arith in
    let u : half_up a d ≤ w + 1 = up_le a d (w + 1) D (omega arith) in
    let l : half_up (2 * w + 1) 2 ≤ half_up a d = up_mono (2 * w + 1) 2 a d (zero-lt-suc 1) D (omega arith) in
    omega arith

by_order : (a d w r : ℕ) (o : Ordering) → w * d + r ≡ a → r < d → Cmp o (r * 2) d → half_up a d ≡ w + upward o
by_order a d w r Ordering.lt e g h = below_half a d w r e h ∙ omega arith
by_order a d w r Ordering.eq e g h = rises a d w r e (omega arith) g
by_order a d w r Ordering.gt e g h = rises a d w r e (omega arith) g

both : (a d : ℕ) → 0 < d → max (closest a d) (closest (a + 1 * d) d - 1) ≡ half_up a d
both a d D =
    let o = compare (a % d * 2) d in
    ap (λ (x : ℕ). max (closest a d) (x - 1)) (ap (λ (x : ℕ). nearest x (compare ((a + 1 * d) % d * 2) d)) (add-mul-div_right a 1 D) ∙ ap (λ (x : ℕ). nearest (a / d + 1) (compare (x * 2) d)) (add-mul-mod_self_right a 1 d))
    ∙ larger (a / d) o ∙ sym (by_order a d (a / d) (a % d) o (div-add-mod' a d) (mod-lt a D) (cmp (a % d * 2) d))

-- ---- the larger of two whole numbers that are not negative
max_val : (x y : Float) (a b : ℕ) → HasValue x false a 1 → HasValue y false b 1 → HasValue (fmax x y) false (max a b) 1
max_val x y a b v w = let c = values_compare y x b a w v in go (lt y x) c.0 c.1
  where
    go : (t : Bool) → (T t → b < a) → (T (not t) → a ≤ b) → HasValue (cond t x y) false (max a b) 1
    go true f g = let l = f tt in let i : a ≡ max a b = omega arith in subst (λ (z : ℕ). HasValue x false z 1) i v
    go false f g = let l = g tt in let i : b ≡ max a b = omega arith in subst (λ (z : ℕ). HasValue y false z 1) i w

-- ---- less the grid and the centre: the difference of two whole numbers
less_centre : (u : Float) (h : ℕ) → h ≤ 65536 → HasValue u false (8388608 + h) 1 → u ⊖ centre ≡ f32 h ⊖ f32 32768
less_centre u h l v = go (ltb h 32768) (ltb→lt h 32768) (nltb→le h 32768)
  where
    a : HasValue (f32 h) false h 1
    a = whole_value h (omega arith)

    b : HasValue (f32 32768) false 32768 1
    b = whole_value 32768 (omega arith)

    go : (t : Bool) → (T t → h < 32768) → (T (not t) → 32768 ≤ h) → u ⊖ centre ≡ f32 h ⊖ f32 32768
    go true f g =
        let k = f tt in
        let e : 8421376 - (8388608 + h) ≡ 32768 - h = omega arith in
        sub_down binary32 u centre (8388608 + h) 8421376 1 (zero-lt-suc 0) v (refl, refl) (omega arith)
        ∙ ap (λ (z : ℕ). round binary32 true z 1) e ∙ sym (sub_down binary32 (f32 h) (f32 32768) h 32768 1 (zero-lt-suc 0) a b k)
    go false f g =
        let k = g tt in
        let e : 8388608 + h - 8421376 ≡ h - 32768 = omega arith in
        sub_up binary32 u centre (8388608 + h) 8421376 1 (zero-lt-suc 0) v (refl, refl) (omega arith)
        ∙ ap (λ (z : ℕ). round binary32 false z 1) e ∙ sym (sub_up binary32 (f32 h) (f32 32768) h 32768 1 (zero-lt-suc 0) a b k)

-- ---- the whole
larger_val : (m : ℕ) (e : ℤ) → m * up e ≤ 65536 * down e → HasValue (fmax (fin false m e ⊕ two23) (fin false m e ⊕ odd23 ⊖ one)) false (8388608 + half_up (m * up e) (down e)) 1
larger_val m e h =
    let a = m * up e in
    let d = down e in
    let D : 0 < d = down_pos e in
    let w : a ≤ 4194304 * d = omega arith in
    let N = closest (a + 1 * d) d in
    let n : N ≤ 65537 = closest_mono (a + 1 * d) d 65537 1 D (zero-lt-suc 0) (le_trans (le_of_eq (mul-one (a + 1 * d))) (omega arith)) in
    let p : HasValue (fin false m e ⊕ two23) false (8388608 + closest a d) 1 = two23_val m e w in
    let s : closest (a + 8388609 * d) d ≡ 8388608 + N = ap (λ (z : ℕ). closest z d) (split a d) ∙ closest_shift 8388608 (a + 1 * d) d refl D in
    let q : HasValue (fin false m e ⊕ odd23) false (8388608 + N) 1 =
    subst (λ (z : ℕ). HasValue (fin false m e ⊕ odd23) false z 1) s (t_val 8388609 m e odd23 (refl, refl) (omega arith) (omega arith) w) in
    let r : HasValue (fin false m e ⊕ odd23 ⊖ one) false (8388608 + N - 1) 1 =
    subst (λ (z : Float). HasValue z false (8388608 + N - 1) 1) (sym (sub_up binary32 (fin false m e ⊕ odd23) one (8388608 + N) 1 1 (zero-lt-suc 0) q (refl, refl) (omega arith))) (round_whole binary32 false (8388608 + N - 1) (omega arith)) in
    subst (λ (z : ℕ). HasValue (fmax (fin false m e ⊕ two23) (fin false m e ⊕ odd23 ⊖ one)) false z 1) (out (closest a d) N ∙ ap (λ (z : ℕ). 8388608 + z) (both a d D))
    (max_val (fin false m e ⊕ two23) (fin false m e ⊕ odd23 ⊖ one) (8388608 + closest a d) (8388608 + N - 1) p r)
  where
    split : (a d : ℕ) → a + 8388609 * d ≡ a + 1 * d + 8388608 * d
    split a d = omega arith

    out : (x y : ℕ) → max (8388608 + x) (8388608 + y - 1) ≡ 8388608 + max x (y - 1)
    out x y = omega arith

pub centred_is : (x c : Float) → Limited 65536 x c → higher c ⊖ centre ≡ f32 (round_clamped 65536 x) ⊖ f32 32768
centred_is x c L =
    let h = half_up (L.m * up L.e) (down L.e) in
    ap (λ (z : Float). higher z ⊖ centre) L.is
    ∙ less_centre _ h (up_le (L.m * up L.e) (down L.e) 65536 (down_pos L.e) L.within) (larger_val L.m L.e L.within)
    ∙ ap (λ (z : ℕ). f32 z ⊖ f32 32768) L.rounds

-- the two sums by v itself, times 256 and limited
pub centred_of : (v : Float) → higher (clamped 65536 (v ⊗ f32 256)) ⊖ centre ≡ f32 (round_clamped 65536 (v ⊗ f32 256)) ⊖ f32 32768
centred_of v = centred_is (v ⊗ f32 256) _ (limited (v ⊗ f32 256) 65536 (mul-fits binary32 v (f32 256)) (omega arith))

-- ---- the same two sums of any value that is limited to 65,536 at most, and their bits

pub higher_of : (max : ℕ) (x : Float) → T (fits binary32 x) → max ≤ 65536 → HasValue (higher (clamped max x)) false (8388608 + round_clamped max x) 1
higher_of max x f h =
    let L = limited x max f (omega arith) in
    let w : L.m * up L.e ≤ 65536 * down L.e = le_trans L.within (mul-le-mul_right (down L.e) h) in
    subst (λ (n : ℕ). HasValue (higher (clamped max x)) false (8388608 + n) 1) L.rounds (subst (λ (c : Float). HasValue (higher c) false (8388608 + half_up (L.m * up L.e) (down L.e)) 1) (sym L.is) (larger_val L.m L.e w))

pub higher_bits : (max : ℕ) (x : Float) → T (fits binary32 x) → max ≤ 65536 → to_bits binary32 (higher (clamped max x)) ≡ 1258291200 + round_clamped max x
higher_bits max x f h =
    let n = round_clamped max x in
    let l : n ≤ max = round_within max x in
    grid_bits 0 (higher (clamped max x)) (8388608 + n) (omega arith) (omega arith) (subst (λ (k : ℕ). HasValue (higher (clamped max x)) false k 1) (sym (mul-one (8388608 + n))) (higher_of max x f h)) ∙ sum_is n
  where
    sum_is : (n : ℕ) → (149 + 0) * 8388608 + (8388608 + n) ≡ 1258291200 + n
    sum_is n = omega arith

pub higher_no_nan : (max : ℕ) (x : Float) → T (fits binary32 x) → max ≤ 65536 → T (not (is_nan (higher (clamped max x))))
higher_no_nan max x f h = value_no_nan (higher (clamped max x)) false _ 1 (higher_of max x f h)

-- the bits less those of 2 ^ 23, as a difference of words gives it
pub bits_less : (max : ℕ) (x : Float) → T (fits binary32 x) → max ≤ 65536 → (to_bits binary32 (higher (clamped max x)) + (4294967296 - 1258291200)) % 4294967296 ≡ round_clamped max x
bits_less max x f h =
    let n = round_clamped max x in
    let l : n ≤ max = round_within max x in
    ap (λ (b : ℕ). (b + (4294967296 - 1258291200)) % 4294967296) (higher_bits max x f h) ∙ less n (omega arith)
  where
    less : (n : ℕ) → n ≤ 65536 → (1258291200 + n + (4294967296 - 1258291200)) % 4294967296 ≡ n
    less n h = omega arith
