-- The bits of a sum with 1.5 * 2 ^ 31 count the multiple of 256 nearest to the other number.
-- The sum is one rounding of a fraction (`summed`), and laws' `on_grid` and `grid_bits` at j = 8 say to which multiple and with what bits.
-- The hard step is `counted`, where the rounding's half of 256 and the slack of the other number add up.
use Rattle.std.proofs.Common.{◌≡◌, refl, sym, ap, subst, Bool, true, false, not, ℕ, ◌+◌, ◌-◌, ◌*◌, ◌≤◌, ◌<◌, zero-lt-suc, mul-one, mul-pos, mul-le-mul_right, le_of_mul-le-mul_right, arith, T, lit<, lit≤, Float}
use lib.IntN.{ℤ}
use lib.Ieee.{nan, inf, fin, binary32, up, down, round, neg, sub, is_nan, to_bits}
use lib.Ieee.Fits.{down_pos}
use lib.Ieee.Exact.{HasValue}
use lib.Ieee.Nearest.{closest, closest_mono}
use Rattle.laws.specs.Floats.{◌⊕◌, ◌⊖◌, over, under}
use Rattle.laws.specs.Inner.Floats.{Close, NearFraction}
use Rattle.laws.proofs.Halves.{Half, closest_half}
use Rattle.laws.proofs.Values.{value_no_nan}
use Rattle.laws.proofs.Operators.{add_up, add_down}
use Rattle.laws.proofs.Nearness.{neg_near}
use Rattle.laws.proofs.Grids.{on_grid, grid_bits}
use Rattle.kernel_blocks.specs.Inner.Floating.{middle}

-- r counts a multiple of 256 that (a - b) / c is within 128 + e / 256 of
pub record Counts (r a b c e : ℕ) : Type 0 where
  pub hi : 65536 * (r * c) + 256 * b ≤ 65536 * (1329594368 * c) + (32768 + e) * c + 256 * a
  pub lo : 65536 * (1329594368 * c) + 256 * a ≤ 65536 * (r * c) + (32768 + e) * c + 256 * b

-- (a - b) / c and the slack are small beside 2 ^ 31
pub record Small (a b c e : ℕ) : Type 0 where
  pub some : 0 < c
  pub top : 256 * a + e * c ≤ 0x400_0000 * c
  pub bottom : 256 * b + e * c ≤ 0x400_0000 * c

sized : (s : Bool) (M D a b c e : ℕ) → Small a b c e → Close (over s M) (under s M) D a b c e → M ≤ 0x4_0000 * D
sized false M D a b c e w h = le_of_mul-le-mul_right (go w.top h.hi) w.some
  where
    go : 256 * a + e * c ≤ 0x400_0000 * c → 256 * (M * c + b * D) ≤ 256 * (0 * c + a * D) + e * (c * D) → M * c ≤ 0x4_0000 * D * c
    go t h = omega (arith, mul-le-mul_right D t)
sized true M D a b c e w h = le_of_mul-le-mul_right (go w.bottom h.lo) w.some
  where
    go : 256 * b + e * c ≤ 0x400_0000 * c → 256 * (M * c + a * D) ≤ 256 * (0 * c + b * D) + e * (c * D) → M * c ≤ 0x4_0000 * D * c
    go t h = omega (arith, mul-le-mul_right D t)

-- the sum as one rounding of a fraction A / D
record Sum (x : Float) (P N D : ℕ) : Type 0 where
  A : ℕ
  is : x ≡ round binary32 false A D
  at : A + N ≡ 3221225472 * D + P

middle_value : (D : ℕ) → HasValue middle false (3221225472 * D) D
middle_value D = (refl, sym (mul-one (3221225472 * D)))

summed : (s : Bool) (m : ℕ) (e : ℤ) → m * up e ≤ 0x4_0000 * down e → Sum (middle ⊕ fin s m e) (over s (m * up e)) (under s (m * up e)) (down e)
summed false m e h =
    record {
      A = 3221225472 * down e + m * up e;
      is = add_up binary32 middle (fin false m e) (3221225472 * down e) (m * up e) (down e) (down_pos e) (middle_value (down e)) (refl, refl);
      at = omega arith;
    }
summed true m e h =
    record {
      A = 3221225472 * down e - m * up e;
      is = add_down binary32 middle (fin true m e) (3221225472 * down e) (m * up e) (down e) (down_pos e) (middle_value (down e)) (refl, refl) (omega arith);
      at = omega arith;
    }

-- the nearest multiple N, against a number that the sum is close to
counted : (P N D a b c e A n : ℕ) → 0 < D → A + N ≡ 3221225472 * D + P → Close P N D a b c e → Half (n * (D * 256)) A (D * 256) → Counts (1317011456 + n) a b c e
counted P N D a b c e A n z s h k = record { hi = le_of_mul-le-mul_right (up s h.hi k.hi) z; lo = le_of_mul-le-mul_right (dn s h.lo k.lo) z }
  where
    up : A + N ≡ 3221225472 * D + P → 256 * (P * c + b * D) ≤ 256 * (N * c + a * D) + e * (c * D) → 2 * (n * (D * 256)) ≤ 2 * A + D * 256
        → (65536 * ((1317011456 + n) * c) + 256 * b) * D ≤ (65536 * (1329594368 * c) + (32768 + e) * c + 256 * a) * D
    up s h k = omega (arith, ap (λ (x : ℕ). x * c) s, mul-le-mul_right c k)

    dn : A + N ≡ 3221225472 * D + P → 256 * (N * c + a * D) ≤ 256 * (P * c + b * D) + e * (c * D) → 2 * A ≤ 2 * (n * (D * 256)) + D * 256
        → (65536 * (1329594368 * c) + 256 * a) * D ≤ (65536 * ((1317011456 + n) * c) + (32768 + e) * c + 256 * b) * D
    dn s h k = omega (arith, ap (λ (x : ℕ). x * c) s, mul-le-mul_right c k)

-- what the bits of a sum say, and that it has some
pub record Bits (x : Float) (a b c e : ℕ) : Type 0 where
  pub number : T (not (is_nan x))
  pub counts : Counts (to_bits binary32 x) a b c e

module _ (a b c e : ℕ) (w : Small a b c e) where
  pub plus_bits : (p : Float) → NearFraction p a b c e → Bits (middle ⊕ p) a b c e
  plus_bits nan h = absurd h
  plus_bits (inf s) h = absurd h
  plus_bits (fin s m x) h =
      let D = down x in
      let M = m * up x in
      let z : 0 < D = down_pos x in
      let l : M ≤ 0x4_0000 * D = sized s M D a b c e w h in
      let q = summed s m x l in
      let A = q.A in
      let r : (2147483648 * D + 0x4_0000 * D ≤ A) × (A + 0x4_0000 * D ≤ 4294967040 * D) = within s M D A l q.at in
      let n = closest A (D * 256) in
      let lo : 8388608 ≤ n = closest_mono 8388608 1 A (D * 256) (zero-lt-suc 0) (mul-pos z (lit< tt)) (omega arith) in
      let hi : n ≤ 16777215 = closest_mono A (D * 256) 16777215 1 (mul-pos z (lit< tt)) (zero-lt-suc 0) (omega arith) in
      let v : HasValue (middle ⊕ fin s m x) false (n * 256) 1 =
      subst (λ (y : Float). HasValue y false (n * 256) 1) (sym q.is) (on_grid 8 A D (lit≤ tt) z (omega arith) (omega arith) (omega arith)) in
      record {
        number = value_no_nan (middle ⊕ fin s m x) false (n * 256) 1 v;
        counts = subst (λ (y : ℕ). Counts y a b c e) (sym (grid_bits 8 (middle ⊕ fin s m x) n lo (omega arith) v)) (counted (over s M) (under s M) D a b c e A n z q.at h (closest_half A (D * 256) (mul-pos z (lit< tt))));
      }
    where
      within : (s : Bool) (M D A : ℕ) → M ≤ 0x4_0000 * D → A + under s M ≡ 3221225472 * D + over s M → (2147483648 * D + 0x4_0000 * D ≤ A) × (A + 0x4_0000 * D ≤ 4294967040 * D)
      within false M D A l e = omega arith
      within true M D A l e = omega arith

  pub minus_bits : (p : Float) → NearFraction p b a c e → Bits (middle ⊖ p) a b c e
  unfolding sub
  minus_bits p h = plus_bits (neg p) (neg_near p b a c e h)
