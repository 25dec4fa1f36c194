-- The linear float lies within 1 / 16 of the exact value between the cells of its taps: a lerp of floats within e / 256 is within (4 + 3e) / 256 (`lerp_bound`).
-- Down from exact samples that is 4 / 256, then across 16 / 256. The work is that each rounding is of a number up to 2^16, and adds 1 / 256 at most.
use Rattle.std.proofs.Common.{◌≡◌, ap, ◌∙◌, subst, ℕ, ◌+◌, ◌-◌, ◌*◌, ◌≤◌, ◌<◌, le_trans, le_of_lt, mul-le-mul_right, mul-le-mul, mul-pos, one-mul, arith, lit≤, Float}
use lib.Ieee.{binary32, sub, mul}
use Rattle.laws.specs.Floats.{f32}
use Rattle.laws.specs.Inner.Floats.{NearFraction}
use Rattle.laws.proofs.Nearness.{Mild, Part, Step, mild_step, add_near, sub_near, mul_near, whole_near, near_widen, near_aim}
use Rattle.taps.specs.Taps.{Spot, lerp_of, fraction_of, tap_on}
use Rattle.linear.specs.Linear.{down_by, across_by}
use Rattle.taps.proofs.Spots.{Valid}
use Rattle.taps.proofs.Table.{tap_fraction}

-- ---- lerp

-- p and q in the parts d - k and k: (p * (d - k) + q * k) / d is the exact value between them, k / d of the way
abbrev pub mix : ℕ → ℕ → ℕ → ℕ → ℕ
mix p q k d = p * (d - k) + q * k

-- p in the parts d - k and k
pub split : (p k d : ℕ) → k ≤ d → p * d ≡ p * (d - k) + p * k
split p k d h = ap (λ (z : ℕ). p * z) (back k d h) ∙ spread p (d - k) k
  where
    back : (k d : ℕ) → k ≤ d → d ≡ d - k + k
    back k d h = omega arith

    spread : (p a b : ℕ) → p * (a + b) ≡ p * a + p * b
    spread p a b = omega arith

-- the exact value between two samples is no larger than both may be
pub mix_le : (p q k d c : ℕ) → k ≤ d → p ≤ 65535 * c → q ≤ 65535 * c → mix p q k d ≤ 65535 * (c * d)
mix_le p q k d c h pl ql = go (d - k) (split c k d h) (mul-le-mul_right (d - k) pl) (mul-le-mul_right k ql)
  where
    go : (j : ℕ) → c * d ≡ c * j + c * k → p * j ≤ 65535 * c * j → q * k ≤ 65535 * c * k → p * j + q * k ≤ 65535 * (c * d)
    go j e a b = omega arith

-- the difference, its part and the sum stay below 2 ^ 16
mild_sub : (p q c e : ℕ) → 0 < c → p ≤ 65535 * c → q ≤ 65535 * c → e ≤ 4 → Mild (q + 0) (0 + p) c (e + e)
mild_sub p q c e z pl ql h = record { some = z; top = omega arith; bottom = omega arith; few = omega arith }

mild_mul : (p q c k d e : ℕ) → 0 < c * d → k ≤ d → p ≤ 65535 * c → q ≤ 65535 * c → e ≤ 4 → Mild ((q + 0) * k) ((0 + p) * k) (c * d) (1 + (e + e) + 1)
mild_mul p q c k d e z l pl ql h =
    let a : p * k ≤ 65535 * c * d = mul-le-mul pl l in
    let b : q * k ≤ 65535 * c * d = mul-le-mul ql l in
    record { some = z; top = omega arith; bottom = omega arith; few = omega arith }

mild_add : (p q c k d e : ℕ) → 0 < c * d → k ≤ d → p ≤ 65535 * c → q ≤ 65535 * c → e ≤ 4 → Mild (p * d + (q + 0) * k) (0 * d + (0 + p) * k) (c * d) (e + (1 + (1 + (e + e) + 1)))
mild_add p q c k d e z l pl ql h =
    let a : p * d ≡ p * (d - k) + p * k = split p k d l in
    let b : mix p q k d ≤ 65535 * (c * d) = mix_le p q k d c l pl ql in
    record { some = z; top = top (d - k) a b; bottom = bottom (d - k) a; few = omega arith }
  where
    top : (j : ℕ) → p * d ≡ p * j + p * k → p * j + q * k ≤ 65535 * (c * d) → p * d + (q + 0) * k ≤ 0x1_0000 * (c * d) + (0 * d + (0 + p) * k)
    top j a b = omega arith

    bottom : (j : ℕ) → p * d ≡ p * j + p * k → 0 * d + (0 + p) * k ≤ 0x1_0000 * (c * d) + (p * d + (q + 0) * k)
    bottom j a = omega arith

-- p + k / d of q - p is the mix of p and q
aimed : (p q k d : ℕ) → k ≤ d → p * d + (q + 0) * k + 0 ≡ mix p q k d + (0 * d + (0 + p) * k)
aimed p q k d l = go (d - k) (split p k d l)
  where
    go : (j : ℕ) → p * d ≡ p * j + p * k → p * d + (q + 0) * k + 0 ≡ p * j + q * k + (0 * d + (0 + p) * k)
    go j e = omega arith

-- a lerp by its three roundings: r is the slack of the fraction, x, y and z what is known after each rounding
pub lerp_near : (a b f : Float) (p q c k d e r x y z : ℕ) → 0 < c → k ≤ d → p ≤ 65535 * c → q ≤ 65535 * c
    → Step (q + 0) (0 + p) c (e + e) x → Step ((q + 0) * k) ((0 + p) * k) (c * d) (x + r) y → Step (p * d + (q + 0) * k) (0 * d + (0 + p) * k) (c * d) (e + y) z
    → Part f k d r → NearFraction a p 0 c e → NearFraction b q 0 c e → NearFraction (lerp_of a b f) (mix p q k d) 0 (c * d) z
lerp_near a b f p q c k d e r x y z zc l pl ql sx sy sz v g h =
    let s : NearFraction (sub binary32 b a) (q + 0) (0 + p) c x = sub_near b a q 0 p 0 c e e x sx h g in
    let t : NearFraction (mul binary32 f (sub binary32 b a)) ((q + 0) * k) ((0 + p) * k) (c * d) y =
    mul_near f (sub binary32 b a) k d (q + 0) (0 + p) c x r y (omega arith) (omega arith) zc sy v s in
    near_aim (lerp_of a b f) (p * d + (q + 0) * k) (0 * d + (0 + p) * k) (c * d) z (mix p q k d) 0 (aimed p q k d l)
    (add_near a (mul binary32 f (sub binary32 b a)) (p * d) (0 * d) ((q + 0) * k) ((0 + p) * k) (c * d) e y z sz (near_widen a p 0 c e d g) t)

-- nearness with its slack written otherwise
near_as : (x : Float) (p n c e d : ℕ) → e ≡ d → NearFraction x p n c e → NearFraction x p n c d
near_as x p n c e d k h = subst (λ (z : ℕ). NearFraction x p n c z) k h

-- each of the three roundings and the fraction add 1 / 256, the two ends 3 e / 256
pub lerp_bound : (a b f : Float) (p q c k d e : ℕ) → 0 < c → 0 < d → k ≤ d → p ≤ 65535 * c → q ≤ 65535 * c → e ≤ 4 → Part f k d 1 → NearFraction a p 0 c e → NearFraction b q 0 c e
    → NearFraction (lerp_of a b f) (mix p q k d) 0 (c * d) (4 + 3 * e)
lerp_bound a b f p q c k d e zc zd l pl ql h v g w =
    near_as (lerp_of a b f) (mix p q k d) 0 (c * d) (1 + (e + (1 + (1 + (e + e) + 1)))) (4 + 3 * e) (omega arith)
    (lerp_near a b f p q c k d e 1 (1 + (e + e)) (1 + (1 + (e + e) + 1)) (1 + (e + (1 + (1 + (e + e) + 1)))) zc l pl ql
    (mild_step (q + 0) (0 + p) c (e + e) (mild_sub p q c e zc pl ql h))
    (mild_step ((q + 0) * k) ((0 + p) * k) (c * d) (1 + (e + e) + 1) (mild_mul p q c k d e (mul-pos zc zd) l pl ql h))
    (mild_step (p * d + (q + 0) * k) (0 * d + (0 + p) * k) (c * d) (e + (1 + (1 + (e + e) + 1))) (mild_add p q c k d e (mul-pos zc zd) l pl ql h))
    v g w)

-- ---- down, then across

-- the exact value between four cells, down by v and then across by h, is spot_num / spot_den
abbrev pub spot_num : (ℕ → ℕ → ℕ) → Spot → Spot → ℕ
spot_num c v h =
    mix (mix (c v.near h.near) (c v.far h.near) v.k v.d)
    (mix (c v.near h.far) (c v.far h.far) v.k v.d) h.k h.d

abbrev pub spot_den : Spot → Spot → ℕ
spot_den v h = v.d * h.d

-- two cells of a column are exact, so that their lerp is within 4 / 256
down_near : (a b k d : ℕ) → a ≤ 65535 → b ≤ 65535 → k < d → d < 9 → NearFraction (lerp_of (f32 a) (f32 b) (fraction_of k d)) (mix a b k d) 0 d 4
down_near a b k d al bl h l =
    subst (λ (c : ℕ). NearFraction (lerp_of (f32 a) (f32 b) (fraction_of k d)) (mix a b k d) 0 c 4) (one-mul d)
    (lerp_bound (f32 a) (f32 b) (fraction_of k d) a b 1 k d 0 (lit≤ tt) (omega arith) (le_of_lt h) al bl (lit≤ tt) (tap_fraction k d h l).part (whole_near a (le_trans al (lit≤ tt))) (whole_near b (le_trans bl (lit≤ tt))))

-- four cells by any two taps of the table, within 16 / 256
pub bilinear_near : (c : ℕ → ℕ → ℕ) → ((j i : ℕ) → c j i ≤ 65535) → (v h : Spot) → Valid v → Valid h → NearFraction (across_by (tap_on h) (down_by (tap_on v) c)) (spot_num c v h) 0 (spot_den v h) 16
bilinear_near c b v h p q =
    let column : (i : ℕ) → NearFraction (down_by (tap_on v) c i) (mix (c v.near i) (c v.far i) v.k v.d) 0 v.d 4 =
    λ i. down_near (c v.near i) (c v.far i) v.k v.d (b v.near i) (b v.far i) p.part p.small in
    let small : (i : ℕ) → mix (c v.near i) (c v.far i) v.k v.d ≤ 65535 * v.d =
    λ i. subst (λ (x : ℕ). mix (c v.near i) (c v.far i) v.k v.d ≤ 65535 * x) (one-mul v.d)
    (mix_le (c v.near i) (c v.far i) v.k v.d 1 (le_of_lt p.part) (b v.near i) (b v.far i)) in
    lerp_bound (down_by (tap_on v) c h.near) (down_by (tap_on v) c h.far) (fraction_of h.k h.d) (mix (c v.near h.near) (c v.far h.near) v.k v.d)
    (mix (c v.near h.far) (c v.far h.far) v.k v.d) v.d h.k h.d 4 (omega arith) (omega arith) (le_of_lt q.part) (small h.near) (small h.far) (lit≤ tt)
    (tap_fraction h.k h.d q.part q.small).part (column h.near) (column h.far)
