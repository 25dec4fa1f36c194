-- Signed fractions (p - n) / c within e / 256 of each other: sums, products by a fraction below 1, and chains. Nothing here is about floats.
-- Each law is two inequalities, linear once they are multiplied by the other side's denominators. The hard one is the product, `times`:
-- a chain of the error of (p - n) / c, which a factor below 1 doesn't raise (`grown`), and the error of the factor itself (`nudged`).
use Rattle.std.proofs.Common.{◌≡◌, ap, ℕ, ◌+◌, ◌*◌, ◌≤◌, ◌<◌, mul-le-mul_right, le_of_mul-le-mul_right, mul-pos, arith}
use Rattle.laws.specs.Inner.Floats.{Close}

module _ (P N D p n c e : ℕ) where
  pub flip : Close P N D p n c e → Close N P D n p c e
  flip h = omega arith

  pub widen : (k : ℕ) → Close P N D p n c e → Close P N D (p * k) (n * k) (c * k) e
  widen k h = record { hi = omega (arith, mul-le-mul_right k h.hi); lo = omega (arith, mul-le-mul_right k h.lo) }

-- the three parts of an order, each for its equal
swap : (x x' y y' z z' : ℕ) → x ≡ x' → y ≡ y' → z ≡ z' → 256 * x' ≤ 256 * y' + z' → 256 * x ≤ 256 * y + z
swap x x' y y' z z' a b c h = omega arith

mid : (S S' T T' B D u v : ℕ) → 256 * S ≤ 256 * S' + u → 256 * T ≤ 256 * T' + v → 256 * (S * B + T * D) ≤ 256 * (S' * B + T' * D) + (u * B + v * D)
mid S S' T T' B D u v a b = omega (arith, mul-le-mul_right B a, mul-le-mul_right D b)

regroup : (P Q n m B D c : ℕ) → (P * B + Q * D) * c + (n + m) * (D * B) ≡ (P * c + n * D) * B + (Q * c + m * B) * D
regroup P Q n m B D c = omega arith

slack : (e d c D B : ℕ) → (e + d) * (c * (D * B)) ≡ e * (c * D) * B + d * (c * B) * D
slack e d c D B = omega arith

plus_side : (D B c e d P N n p Q M m q : ℕ) → 256 * (P * c + n * D) ≤ 256 * (N * c + p * D) + e * (c * D) → 256 * (Q * c + m * B) ≤ 256 * (M * c + q * B) + d * (c * B)
    → 256 * ((P * B + Q * D) * c + (n + m) * (D * B)) ≤ 256 * ((N * B + M * D) * c + (p + q) * (D * B)) + (e + d) * (c * (D * B))
plus_side D B c e d P N n p Q M m q a b =
    swap _ _ _ _ _ _ (regroup P Q n m B D c) (regroup N M p q B D c) (slack e d c D B)
    (mid (P * c + n * D) (N * c + p * D) (Q * c + m * B) (M * c + q * B) B D (e * (c * D)) (d * (c * B)) a b)

pub plus : (P N D p n Q M B q m c e d : ℕ) → Close P N D p n c e → Close Q M B q m c d → Close (P * B + Q * D) (N * B + M * D) (D * B) (p + q) (n + m) c (e + d)
plus P N D p n Q M B q m c e d h k = record { hi = plus_side D B c e d P N n p Q M m q h.hi k.hi; lo = plus_side D B c e d N P p n M Q q m h.lo k.lo }

pub chain : (P N D Q M C p n c e d : ℕ) → 0 < C → Close P N D Q M C d → Close Q M C p n c e → Close P N D p n c (d + e)
chain P N D Q M C p n c e d z h k =
    record {
      hi = le_of_mul-le-mul_right (hi1 h.hi k.hi) z;
      lo = le_of_mul-le-mul_right (lo1 h.lo k.lo) z;
    }
  where
    hi1 : 256 * (P * C + M * D) ≤ 256 * (N * C + Q * D) + d * (C * D) → 256 * (Q * c + n * C) ≤ 256 * (M * c + p * C) + e * (c * C)
        → 256 * (P * c + n * D) * C ≤ (256 * (N * c + p * D) + (d + e) * (c * D)) * C
    hi1 a b = omega (arith, mul-le-mul_right c a, mul-le-mul_right D b)

    lo1 : 256 * (N * C + Q * D) ≤ 256 * (P * C + M * D) + d * (C * D) → 256 * (M * c + p * C) ≤ 256 * (Q * c + n * C) + e * (c * C)
        → 256 * (N * c + p * D) * C ≤ (256 * (P * c + n * D) + (d + e) * (c * D)) * C
    lo1 a b = omega (arith, mul-le-mul_right c a, mul-le-mul_right D b)

-- times F / G, which is at most 1
grow : (S S' w e F G : ℕ) → F ≤ G → 256 * S ≤ 256 * S' + e * w → 256 * (S * (F * G)) ≤ 256 * (S' * (F * G)) + e * w * G * G
grow S S' w e F G l a = omega (arith, mul-le-mul_right (F * G) a, mul-le-mul_right (e * w * G) l)

part : (P n c D F G : ℕ) → P * F * (c * G) + n * F * (D * G) ≡ (P * c + n * D) * (F * G)
part P n c D F G = omega arith

part_e : (e c D G : ℕ) → e * (c * G * (D * G)) ≡ e * (c * D) * G * G
part_e e c D G = omega arith

grown : (P N D p n c e F G : ℕ) → F ≤ G → Close P N D p n c e → Close (P * F) (N * F) (D * G) (p * F) (n * F) (c * G) e
grown P N D p n c e F G l h =
    record {
      hi = swap _ _ _ _ _ _ (part P n c D F G) (part N p c D F G) (part_e e c D G) (grow (P * c + n * D) (N * c + p * D) (c * D) e F G l h.hi);
      lo = swap _ _ _ _ _ _ (part N p c D F G) (part P n c D F G) (part_e e c D G) (grow (N * c + p * D) (P * c + n * D) (c * D) e F G l h.lo);
    }

-- F / G is within 2 ^ -25 of k / d
pub record Fine (F G k d : ℕ) : Type 0 where
  pub most : F ≤ G
  pub hi : 0x200_0000 * (F * d) ≤ 0x200_0000 * (k * G) + G * d
  pub lo : 0x200_0000 * (k * G) ≤ 0x200_0000 * (F * d) + G * d

-- F / G for k / d as a factor of (p - n) / c, where p / c and n / c are at most 2 ^ 16
nudge : (p n c X Y Z : ℕ) → 0x200_0000 * X ≤ 0x200_0000 * Y + Z → 0x200_0000 * Y ≤ 0x200_0000 * X + Z → p ≤ 0x1_0000 * c → n ≤ 0x1_0000 * c
    → 256 * (p * X + n * Y) ≤ 256 * (n * X + p * Y) + Z * c
nudge p n c X Y Z a b pl nl = omega (arith, mul-le-mul_right p a, mul-le-mul_right n b, mul-le-mul_right Z pl, mul-le-mul_right Z nl)

by_c : (a b z c : ℕ) → 256 * a ≤ 256 * b + z → 256 * (a * c) ≤ 256 * (b * c) + z * c
by_c a b z c h = omega (arith, mul-le-mul_right c h)

place : (p n c F G k d : ℕ) → p * F * (c * d) + n * k * (c * G) ≡ (p * (F * d) + n * (k * G)) * c
place p n c F G k d = omega arith

place' : (p n c F G k d : ℕ) → n * F * (c * d) + p * k * (c * G) ≡ (n * (F * d) + p * (k * G)) * c
place' p n c F G k d = omega arith

place_e : (c d G : ℕ) → 1 * (c * d * (c * G)) ≡ G * d * c * c
place_e c d G = omega arith

nudged : (p n c F G k d : ℕ) → Fine F G k d → p ≤ 0x1_0000 * c → n ≤ 0x1_0000 * c → Close (p * F) (n * F) (c * G) (p * k) (n * k) (c * d) 1
nudged p n c F G k d h pl nl =
    record {
      hi = swap _ _ _ _ _ _ (place p n c F G k d) (place' p n c F G k d) (place_e c d G) (by_c _ _ _ c (nudge p n c (F * d) (k * G) (G * d) h.hi h.lo pl nl));
      lo = swap _ _ _ _ _ _ (place n p c F G k d) (place' n p c F G k d) (place_e c d G) (by_c _ _ _ c (nudge n p c (F * d) (k * G) (G * d) h.hi h.lo nl pl));
    }

-- F / G stands for k / d as a factor, with r / 256 of slack at the sizes that occur
pub record Takes (F G k d r : ℕ) : Type 0 where
  pub most : F ≤ G
  pub there : (p n c : ℕ) → p ≤ 0x1_0000 * c → n ≤ 0x1_0000 * c → Close (p * F) (n * F) (c * G) (p * k) (n * k) (c * d) r

pub fine_takes : (F G k d : ℕ) → Fine F G k d → Takes F G k d 1
fine_takes F G k d h = record { most = h.most; there = λ p n c pl nl. nudged p n c F G k d h pl nl }

-- F / G is k / d
pub exact_takes : (F G k d : ℕ) → F ≤ G → F * d ≡ k * G → Takes F G k d 0
exact_takes F G k d l e = record { most = l; there = λ p n c pl nl. record { hi = side p n c; lo = side n p c } }
  where
    one : (p c X Y : ℕ) → X ≡ Y → p * X * c ≡ p * Y * c
    one p c X Y e = ap (λ (z : ℕ). p * z * c) e

    eqs : (p n c : ℕ) → p * (F * d) * c ≡ p * (k * G) * c → n * (F * d) * c ≡ n * (k * G) * c → 256 * (p * F * (c * d) + n * k * (c * G)) ≤ 256 * (n * F * (c * d) + p * k * (c * G)) + 0 * (c * d * (c * G))
    eqs p n c a b = omega arith

    side : (p n c : ℕ) → 256 * (p * F * (c * d) + n * k * (c * G)) ≤ 256 * (n * F * (c * d) + p * k * (c * G)) + 0 * (c * d * (c * G))
    side p n c = eqs p n c (one p c (F * d) (k * G) e) (one n c (F * d) (k * G) e)

pub times : (P N D p n c e F G k d r : ℕ) → 0 < c → 0 < G → Takes F G k d r → p ≤ 0x1_0000 * c → n ≤ 0x1_0000 * c → Close P N D p n c e
    → Close (P * F) (N * F) (D * G) (p * k) (n * k) (c * d) (e + r)
times P N D p n c e F G k d r C z h pl nl v =
    chain (P * F) (N * F) (D * G) (p * F) (n * F) (c * G) (p * k) (n * k) (c * d) r e (mul-pos C z) (grown P N D p n c e F G h.most v) (h.there p n c pl nl)

-- the same number as another difference
shift_side : (P N Q M c x y z : ℕ) → P + M ≡ Q + N → 256 * (P * c + x) ≤ 256 * (N * c + y) + z → 256 * (Q * c + x) ≤ 256 * (M * c + y) + z
shift_side P N Q M c x y z e h = omega (arith, ap (λ (v : ℕ). v * c) e)

turn : (x y x' y' u v u' v' z : ℕ) → 256 * (u + x) ≤ 256 * (v + y) + z → x + y' ≡ x' + y → 256 * (u + x') ≤ 256 * (v + y') + z
turn x y x' y' u v u' v' z h e = omega arith

pub shift : (P N D p n c e Q M : ℕ) → P + M ≡ Q + N → Close P N D p n c e → Close Q M D p n c e
shift P N D p n c e Q M q h =
    record { hi = shift_side P N Q M c (n * D) (p * D) (e * (c * D)) q h.hi; lo = shift_side N P M Q c (p * D) (n * D) (e * (c * D)) (omega arith) h.lo }

pub aim : (P N D p n c e q m : ℕ) → p + m ≡ q + n → Close P N D p n c e → Close P N D q m c e
aim P N D p n c e q m k h =
    record { hi = aim_side (P * c) (N * c) D n p m q (e * (c * D)) (omega arith) h.hi; lo = aim_side (N * c) (P * c) D p n q m (e * (c * D)) k h.lo }
  where
    aim_side : (u v D n p m q z : ℕ) → n + q ≡ m + p → 256 * (u + n * D) ≤ 256 * (v + p * D) + z → 256 * (u + m * D) ≤ 256 * (v + q * D) + z
    aim_side u v D n p m q z e h = omega (arith, ap (λ (v : ℕ). v * D) e)

pub loosen : (P N D p n c e d : ℕ) → e ≤ d → Close P N D p n c e → Close P N D p n c d
loosen P N D p n c e d l h = record { hi = omega (arith, h.hi, mul-le-mul_right (c * D) l); lo = omega (arith, h.lo, mul-le-mul_right (c * D) l) }
