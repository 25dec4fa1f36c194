-- A float's nearness to a fraction, through roundings and operators: each adds 1 / 256 below 2 ^ 17, and nothing where it is exact.
-- `round_near` carries it: below 2 ^ 17 the digits that are kept are 2 ^ -7 apart at most, and `closest_half` is within half of that.
-- An operator is then one rounding of a fraction that the laws of Fractions put together, `sum_near` by the signs of the two parts.
use Rattle.std.proofs.Common.{◌≡◌, refl, sym, ap, ◌∙◌, subst, Bool, true, false, not, ◌&&◌, cond, ℕ, ◌+◌, ◌-◌, ◌*◌, ◌/◌, ◌^◌, ◌≤◌, ◌<◌, le_trans, le_of_eq, le_of_lt, lt_of_lt_of_le, lt_of_le_of_lt, mul_comm, mul_assoc, mul_right_comm, zero-mul, mul-pos, mul-le-mul_left, mul-le-mul_right, le_of_mul-le-mul_right, mul-lt-mul_of_pos_right, div-lt_iff_lt-mul, arith, T, ltb, ltb→lt, nltb→le, lit<, lit≤, pow_pos, pow_mono, Float}
use lib.Ieee.{nan, inf, fin, binary32, up, down, size, unlike, round, neg, sum, add, sub, mul}
use lib.Ieee.Digits.{size-le}
use lib.Ieee.Fits.{round_is, down_pos}
use lib.Ieee.Exact.{HasValue, units_val, round_exact}
use lib.Ieee.Nearest.{closest}
use Rattle.laws.specs.Floats.{f32, over, under}
use Rattle.laws.specs.Inner.Floats.{Close, NearFraction, IsFraction}
use Rattle.laws.proofs.Halves.{Half, closest_half}
use Rattle.laws.proofs.Values.{whole_value}
use Rattle.laws.proofs.Fractions.{plus, chain, widen, aim, times, shift, flip, Takes}

-- ---- in units of the format's smallest value, of which R / C has R * (z * 128) / C; z units are 2 ^ -7
spare : (z p l : ℕ) → z ≤ p + l → z - p ≤ l
spare z p l h = omega arith

coarse : (x a b c : ℕ) → b ≤ c → Half x a b → Half x a c
coarse x a b c l h = omega arith

scaled : (M D G R C z : ℕ) → 0 < z → M * (z * 128) ≡ G * D → Half (G * C) (R * (z * 128)) (C * z) → (256 * (M * C) ≤ 256 * (R * D) + C * D) × (256 * (R * D) ≤ 256 * (M * C) + C * D)
scaled M D G R C z zp e h = (le_of_mul-le-mul_right (up e h.hi) zp, le_of_mul-le-mul_right (dn e h.lo) zp)
  where
    up : M * (z * 128) ≡ G * D → 2 * (G * C) ≤ 2 * (R * (z * 128)) + C * z → 256 * (M * C) * z ≤ (256 * (R * D) + C * D) * z
    up e h = omega (arith, mul-le-mul_right D h, ap (λ (x : ℕ). x * C) e)

    dn : M * (z * 128) ≡ G * D → 2 * (R * (z * 128)) ≤ 2 * (G * C) + C * z → 256 * (R * D) * z ≤ (256 * (M * C) + C * D) * z
    dn e h = omega (arith, mul-le-mul_right D h, ap (λ (x : ℕ). x * C) e)

small : (G R C z : ℕ) → 0 < C → R ≤ 0x2_0000 * C → 2 * (G * C) ≤ 2 * (R * (z * 128)) + C * z → G ≤ 0x200_0000 * z
small G R C z zp r h = le_of_mul-le-mul_right (go r h) zp
  where
    go : R ≤ 0x2_0000 * C → 2 * (G * C) ≤ 2 * (R * (z * 128)) + C * z → G * C ≤ 0x200_0000 * z * C
    go r h = omega (arith, mul-le-mul_right (z * 128) r)

near_of : (x : Float) (s : Bool) (G R C z : ℕ) → 0 < z → HasValue x s G (z * 128) → Half (G * C) (R * (z * 128)) (C * z) → NearFraction x (over s R) (under s R) C 1
near_of nan s G R C z zp v h = absurd v
near_of (inf t) s G R C z zp v h = absurd v
near_of (fin t m e) s G R C z zp v h =
    subst (λ (b : Bool). Close (over b (m * up e)) (under b (m * up e)) (down e) (over s R) (under s R) C 1) (sym v.0)
    (go s (m * up e) (down e) (scaled (m * up e) (down e) G R C z zp v.1 h))
  where
    go : (s : Bool) (M D : ℕ) → (256 * (M * C) ≤ 256 * (R * D) + C * D) × (256 * (R * D) ≤ 256 * (M * C) + C * D) → Close (over s M) (under s M) D (over s R) (under s R) C 1
    go false M D w = omega arith
    go true M D w = omega arith

pub round_near : (s : Bool) (R C : ℕ) → 0 < C → R < 0x2_0000 * C → NearFraction (round binary32 s R C) (over s R) (under s R) C 1
round_near s R C zp r =
    let n = R * 2 ^ 149 in
    let k = size (n / C) - 24 in
    let u = C * 2 ^ k in
    let q = closest n u in
    let hn : n < 2 ^ 166 * C = lt_of_lt_of_le (mul-lt-mul_of_pos_right r (pow_pos 149)) (le_of_eq (mul_right_comm 0x2_0000 C (2 ^ 149))) in
    let kl : k ≤ 142 = spare (size (n / C)) 24 142 (size-le (n / C) 166 ((div-lt_iff_lt-mul zp).1 hn)) in
    let e : q * u ≡ q * 2 ^ k * C = regroup q C (2 ^ k) in
    let h : Half (q * 2 ^ k * C) n (C * 2 ^ 142) =
    coarse (q * 2 ^ k * C) n u (C * 2 ^ 142) (mul-le-mul_left C (pow_mono kl)) (subst (λ (y : ℕ). Half y n u) e (closest_half n u (mul-pos zp (pow_pos k)))) in
    let g : q * 2 ^ k < 2 ^ 277 = lt_of_le_of_lt (small (q * 2 ^ k) R C (2 ^ 142) zp (le_of_lt r) h.hi) (lit< tt) in
    near_of (round binary32 s R C) s (q * 2 ^ k) R C (2 ^ 142) (pow_pos 142)
    (subst (λ (x : Float). HasValue x s (q * 2 ^ k) (2 ^ 149)) (sym (round_is binary32 s R C)) (units_val binary32 s q k g)) h
  where
    regroup : (q c p : ℕ) → q * (c * p) ≡ q * p * c
    regroup q c p = omega arith

pub near_chain : (x : Float) (Q M C p n c d e : ℕ) → 0 < C → NearFraction x Q M C d → Close Q M C p n c e → NearFraction x p n c (d + e)
near_chain nan Q M C p n c d e z h k = absurd h
near_chain (inf s) Q M C p n c d e z h k = absurd h
near_chain (fin s m x) Q M C p n c d e z h k = chain (over s (m * up x)) (under s (m * up x)) (down x) Q M C p n c e d z h k

-- (p - n) / c is at most 2 ^ 16 in size
pub record Mild (p n c e : ℕ) : Type 0 where
  pub some : 0 < c
  pub top : p ≤ 0x1_0000 * c + n
  pub bottom : n ≤ 0x1_0000 * c + p
  pub few : e ≤ 256

bound : (R C p n c e : ℕ) → 0 < C → 0 < c → p ≤ 0x1_0000 * c + n → e ≤ 256 → 256 * (R * c + n * C) ≤ 256 * (0 * c + p * C) + e * (c * C) → R < 0x2_0000 * C
bound R C p n c e zC zc t f h = last (le_of_mul-le-mul_right (go t f h) zc)
  where
    go : p ≤ 0x1_0000 * c + n → e ≤ 256 → 256 * (R * c + n * C) ≤ 256 * (0 * c + p * C) + e * (c * C) → R * c ≤ 0x1_0001 * C * c
    go t f h = omega (arith, mul-le-mul_right C t, mul-le-mul_right (c * C) f)

    last : R ≤ 0x1_0001 * C → R < 0x2_0000 * C
    last h = omega arith

sized : (s : Bool) (R C p n c e : ℕ) → 0 < C → Mild p n c e → Close (over s R) (under s R) C p n c e → R < 0x2_0000 * C
sized false R C p n c e z l h = bound R C p n c e z l.some l.top l.few h.hi
sized true R C p n c e z l h = bound R C n p c e z l.some l.bottom l.few h.lo

pub rounded : (s : Bool) (R C p n c e : ℕ) → 0 < C → Mild p n c e → Close (over s R) (under s R) C p n c e → NearFraction (round binary32 s R C) p n c (1 + e)
rounded s R C p n c e z l h = near_chain (round binary32 s R C) (over s R) (under s R) C p n c 1 e z (round_near s R C z (sized s R C p n c e z l h)) h

-- ---- the sum: a size and a sign are rounded. `step` says what rounding does to a number that is close to (p - n) / c
abbrev pub Step : ℕ → ℕ → ℕ → ℕ → ℕ → Type 0
Step p n c e r = (s : Bool) (R C : ℕ) → 0 < C → Close (over s R) (under s R) C p n c e → NearFraction (round binary32 s R C) p n c r

pub mild_step : (p n c e : ℕ) → Mild p n c e → Step p n c e (1 + e)
mild_step p n c e l s R C z h = rounded s R C p n c e z l h

pub sum_near : (p n c e r : ℕ) → Step p n c e r → (s : Bool) (A : ℕ) (t : Bool) (B C : ℕ) → 0 < C → Close (over s A + over t B) (under s A + under t B) C p n c e → NearFraction (sum binary32 s A t B C) p n c r
unfolding sum
sum_near p n c e r l false A false B C z h = l false (A + B) C z h
sum_near p n c e r l true A true B C z h = l true (A + B) C z h
sum_near p n c e r l false A true B C z h = go (ltb A B) (ltb→lt A B) (nltb→le A B)
  where
    go : (b : Bool) → (T b → A < B) → (T (not b) → B ≤ A) → NearFraction (cond b (round binary32 true (B - A) C) (round binary32 false (A - B) C)) p n c r
    go true f g = l true (B - A) C z (shift (A + 0) (0 + B) C p n c e 0 (B - A) (omega (arith, f tt)) h)
    go false f g = l false (A - B) C z (shift (A + 0) (0 + B) C p n c e (A - B) 0 (omega (arith, g tt)) h)
sum_near p n c e r l true A false B C z h = go (ltb A B) (ltb→lt A B) (nltb→le A B) (ltb B A) (nltb→le B A)
  where
    go : (b : Bool) → (T b → A < B) → (T (not b) → B ≤ A) → (d : Bool) → (T (not d) → A ≤ B) → NearFraction (cond b (round binary32 false (B - A) C) (round binary32 (true && d) (A - B) C)) p n c r
    go true f g d k = l false (B - A) C z (shift (0 + B) (A + 0) C p n c e (B - A) 0 (omega (arith, f tt)) h)
    go false f g true k = l true (A - B) C z (shift (0 + B) (A + 0) C p n c e 0 (A - B) (omega (arith, g tt)) h)
    go false f g false k = l false (A - B) C z (shift (0 + B) (A + 0) C p n c e (A - B) 0 (omega (arith, g tt, k tt)) h)

over_mul : (s : Bool) (a b : ℕ) → over s (a * b) ≡ over s a * b
over_mul false a b = refl
over_mul true a b = sym (zero-mul b)

under_mul : (s : Bool) (a b : ℕ) → under s (a * b) ≡ under s a * b
under_mul false a b = sym (zero-mul b)
under_mul true a b = refl

pub add_near : (x y : Float) (p n q m c e d r : ℕ) → Step (p + q) (n + m) c (e + d) r → NearFraction x p n c e → NearFraction y q m c d → NearFraction (add binary32 x y) (p + q) (n + m) c r
unfolding add
add_near nan y p n q m c e d r l h k = absurd h
add_near (inf s) y p n q m c e d r l h k = absurd h
add_near (fin s a x) nan p n q m c e d r l h k = absurd k
add_near (fin s a x) (inf t) p n q m c e d r l h k = absurd k
add_near (fin s a x) (fin t b y) p n q m c e d r l h k =
    sum_near (p + q) (n + m) c (e + d) r l s (a * up x * down y) t (b * up y * down x) (down x * down y) (mul-pos (down_pos x) (down_pos y))
    (rw (over_mul s (a * up x) (down y), over_mul t (b * up y) (down x), under_mul s (a * up x) (down y), under_mul t (b * up y) (down x))
    (plus (over s (a * up x)) (under s (a * up x)) (down x) p n (over t (b * up y)) (under t (b * up y)) (down y) q m c e d h k))

pub neg_near : (y : Float) (p n c e : ℕ) → NearFraction y p n c e → NearFraction (neg y) n p c e
unfolding neg
neg_near nan p n c e h = absurd h
neg_near (inf s) p n c e h = absurd h
neg_near (fin false m x) p n c e h = flip (m * up x) 0 (down x) p n c e h
neg_near (fin true m x) p n c e h = flip 0 (m * up x) (down x) p n c e h

pub sub_near : (x y : Float) (p n q m c e d r : ℕ) → Step (p + m) (n + q) c (e + d) r → NearFraction x p n c e → NearFraction y q m c d → NearFraction (sub binary32 x y) (p + m) (n + q) c r
unfolding sub
sub_near x y p n q m c e d r l h k = add_near x (neg y) p n m q c e d r l h (neg_near y q m c d k)

-- ---- the product by a fraction
unlike_false : (t : Bool) (F M : ℕ) → (over (unlike false t) (F * M) ≡ over t M * F) × (under (unlike false t) (F * M) ≡ under t M * F)
unlike_false false F M = (mul_comm F M, sym (zero-mul F))
unlike_false true F M = (sym (zero-mul F), mul_comm F M)

-- a float that is not negative and at most 1, and stands for k / d with r / 256 of slack
abbrev pub Part : Float → ℕ → ℕ → ℕ → Type 0
Part nan k d r = ⊥
Part (inf s) k d r = ⊥
Part (fin s m x) k d r = (s ≡ false) × Takes (m * up x) (down x) k d r

pub mul_near : (f y : Float) (k d p n c e r t : ℕ) → p ≤ 0x1_0000 * c → n ≤ 0x1_0000 * c → 0 < c → Step (p * k) (n * k) (c * d) (e + r) t → Part f k d r → NearFraction y p n c e
    → NearFraction (mul binary32 f y) (p * k) (n * k) (c * d) t
unfolding mul
mul_near nan y k d p n c e r t pl nl z l f h = absurd f
mul_near (inf s) y k d p n c e r t pl nl z l f h = absurd f
mul_near (fin s a x) nan k d p n c e r t pl nl z l f h = absurd h
mul_near (fin s a x) (inf u) k d p n c e r t pl nl z l f h = absurd h
mul_near (fin true a x) (fin u b y) k d p n c e r t pl nl z l f h = absurd (subst (λ (v : Bool). T v) f.0 tt)
mul_near (fin false a x) (fin u b y) k d p n c e r t pl nl z l f h =
    let F = a * up x in
    let M = b * up y in
    l (unlike false u) (F * M) (down x * down y) (mul-pos (down_pos x) (down_pos y))
    (rw ((unlike_false u F M).0, (unlike_false u F M).1, mul_comm (down x) (down y))
    (times (over u M) (under u M) (down y) p n c e F (down x) k d r z (down_pos x) f.1 pl nl h))

-- ---- a value is near itself, and near under the moves of a fraction

pub value_near : (x : Float) (s : Bool) (a c : ℕ) → HasValue x s a c → NearFraction x (over s a) (under s a) c 0
value_near nan s a c v = absurd v
value_near (inf t) s a c v = absurd v
value_near (fin t m e) s a c v = subst (λ (b : Bool). Close (over b (m * up e)) (under b (m * up e)) (down e) (over s a) (under s a) c 0) (sym v.0) (go s (m * up e) (down e) v.1)
  where
    go : (s : Bool) (M D : ℕ) → M * c ≡ a * D → Close (over s M) (under s M) D (over s a) (under s a) c 0
    go false M D e = omega arith
    go true M D e = omega arith

-- a whole number is its float
pub whole_near : (n : ℕ) → n ≤ 16777216 → NearFraction (f32 n) n 0 1 0
whole_near n h = value_near (f32 n) false n 1 (whole_value n h)

pub near_widen : (x : Float) (p n c e k : ℕ) → NearFraction x p n c e → NearFraction x (p * k) (n * k) (c * k) e
near_widen nan p n c e k h = h
near_widen (inf s) p n c e k h = h
near_widen (fin s m x) p n c e k h = widen (over s (m * up x)) (under s (m * up x)) (down x) p n c e k h

pub near_aim : (x : Float) (p n c e q m : ℕ) → p + m ≡ q + n → NearFraction x p n c e → NearFraction x q m c e
near_aim nan p n c e q m k h = h
near_aim (inf s) p n c e q m k h = h
near_aim (fin s a x) p n c e q m k h = aim (over s (a * up x)) (under s (a * up x)) (down x) p n c e q m k h

-- near with no slack is equal
pub near_is : (x : Float) (p n c : ℕ) → NearFraction x p n c 0 → IsFraction x p n c
near_is nan p n c h = h
near_is (inf s) p n c h = h
near_is (fin s m x) p n c h = record { eq = omega arith }

-- ---- rounding that is exact: (p - n) / c has fewer than 2 ^ 24 c-ths, and c-ths are a power of two

pub record Whole (p n c j : ℕ) : Type 0 where
  pub scale : c * 2 ^ j ≡ 2 ^ 149
  pub low : j ≤ 149
  pub top : p ≤ n + 0xff_ffff
  pub bottom : n ≤ p + 0xff_ffff

in_units : (R C p n c j : ℕ) → 0 < C → c * 2 ^ j ≡ 2 ^ 149 → R * c + n * C ≡ p * C → R * 2 ^ 149 ≡ (p - n) * 2 ^ j * C
in_units R C p n c j z s e =
    let le : n ≤ p = le_of_mul-le-mul_right (less (R * c) (n * C) (p * C) e) z in
    let q : R * c ≡ (p - n) * C = rest (R * c) n (p - n) p C e (whole n p le) in
    ap (λ (x : ℕ). R * x) (sym s) ∙ sym (mul_assoc R c (2 ^ j)) ∙ ap (λ (x : ℕ). x * 2 ^ j) q ∙ mul_right_comm (p - n) C (2 ^ j)
  where
    less : (x y z : ℕ) → x + y ≡ z → y ≤ z
    less x y z e = omega arith

    whole : (n p : ℕ) → n ≤ p → p ≡ n + (p - n)
    whole n p h = omega arith

    rest : (x n q p C : ℕ) → x + n * C ≡ p * C → p ≡ n + q → x ≡ q * C
    rest x n q p C e f = omega (arith, ap (λ (v : ℕ). v * C) f)

less_than : (p n : ℕ) → p ≤ n + 0xff_ffff → p - n < 2 ^ 24
less_than p n h = omega arith

no_overflow : (q j : ℕ) → q < 2 ^ 24 → j ≤ 149 → q * 2 ^ j < 2 ^ 277
no_overflow q j h l = lt_of_lt_of_le (mul-lt-mul_of_pos_right h (pow_pos j)) (le_trans (mul-le-mul_left (2 ^ 24) (pow_mono l)) (lit≤ tt))

kept : (s : Bool) (R C p n c j : ℕ) → 0 < C → Whole p n c j → Close (over s R) (under s R) C p n c 0 → HasValue (round binary32 s R C) s R C
kept false R C p n c j z w h = round_exact binary32 false R C (p - n) j z (less_than p n w.top) (no_overflow (p - n) j (less_than p n w.top) w.low) (in_units R C p n c j z w.scale (omega arith))
kept true R C p n c j z w h = round_exact binary32 true R C (n - p) j z (less_than n p w.bottom) (no_overflow (n - p) j (less_than n p w.bottom) w.low) (in_units R C n p c j z w.scale (omega arith))

pub exact_step : (p n c j : ℕ) → Whole p n c j → Step p n c 0 0
exact_step p n c j w s R C z h = near_chain (round binary32 s R C) (over s R) (under s R) C p n c 0 0 z (value_near (round binary32 s R C) s R C (kept s R C p n c j z w h)) h
