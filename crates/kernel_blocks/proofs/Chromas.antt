-- A chroma's float is a whole number, c - 32768: its products, and its bits on the grid of whole numbers.
-- `centred_value` carries it, by whether c lies below the centre. A product is then one rounding (`scaled`), and the sum with 2 ^ 23 and the
-- centre is exact, so that laws' `grid_bits` reads c off its bits.
use Rattle.std.proofs.Common.{◌≡◌, refl, sym, ap, ◌∙◌, subst, Bool, true, false, not, ℕ, ◌+◌, ◌-◌, ◌*◌, ◌≤◌, ◌<◌, zero-lt-suc, mul-one, mul-pos, mul-le-mul_left, arith, T, ltb, ltb→lt, nltb→le, Float}
use lib.IntN.{pos}
use lib.Ieee.{fin, binary32, round, is_nan, to_bits}
use lib.Ieee.Back.{round_whole}
use lib.Ieee.Exact.{HasValue}
use Rattle.laws.specs.Floats.{f32, ◌⊕◌, ◌⊗◌, over, under}
use Rattle.laws.specs.Inner.Floats.{Close, NearFraction}
use Rattle.laws.proofs.Values.{whole_value, value_no_nan}
use Rattle.laws.proofs.Operators.{add_up, add_down, sub_up, sub_down, mul_by}
use Rattle.laws.proofs.Grids.{grid_bits}
use Rattle.kernel_blocks.specs.Inner.Floating.{Centred}
use Rattle.kernel_blocks.proofs.Wide.{ample_step}

record Value (x : Float) (c : ℕ) : Type 0 where
  s : Bool
  M : ℕ
  is : HasValue x s M 1
  at : over s M + 32768 ≡ under s M + c

centred_value : {x : Float} {c : ℕ} → Centred x c → Value x c
centred_value {x} {c} h = go (ltb c 32768) (ltb→lt c 32768) (nltb→le c 32768)
  where
    a : HasValue (f32 c) false c 1
    a = let l = h.most in whole_value c (omega arith)

    b : HasValue (f32 32768) false 32768 1
    b = whole_value 32768 (omega arith)

    go : (t : Bool) → (T t → c < 32768) → (T (not t) → 32768 ≤ c) → Value x c
    go true f g =
        let l = f tt in
        record {
          s = true;
          M = 32768 - c;
          is = subst (λ (z : Float). HasValue z true (32768 - c) 1) (sym (h.is ∙ sub_down binary32 (f32 c) (f32 32768) c 32768 1 (zero-lt-suc 0) a b l)) (round_whole binary32 true (32768 - c) (omega arith));
          at = omega arith;
        }
    go false f g =
        let l = g tt in
        let m = h.most in
        record {
          s = false;
          M = c - 32768;
          is = subst (λ (z : Float). HasValue z false (c - 32768) 1) (sym (h.is ∙ sub_up binary32 (f32 c) (f32 32768) c 32768 1 (zero-lt-suc 0) a b l)) (round_whole binary32 false (c - 32768) (omega arith));
          at = omega arith;
        }

-- times F / G, at most 3
pub scaled : (k x : Float) (F G c : ℕ) → HasValue k false F G → 0 < G → F ≤ 3 * G → Centred x c → NearFraction (k ⊗ x) (F * c) (F * 32768) G 1
scaled k x F G c v z l h =
    let w = centred_value h in
    let m : F * c ≤ F * 65536 = mul-le-mul_left F h.most in
    subst (λ (y : Float). NearFraction y (F * c) (F * 32768) G 1) (sym (mul_by binary32 k x w.s F G w.M 1 z (zero-lt-suc 0) v w.is))
    (ample_step (F * c) (F * 32768) G 0 (record { some = z; top = omega arith; bottom = omega arith; few = omega arith }) w.s (F * w.M) (G * 1) (mul-pos z (zero-lt-suc 0)) (exact w.s w.M w.at))
  where
    exact : (s : Bool) (M : ℕ) → over s M + 32768 ≡ under s M + c → Close (over s (F * M)) (under s (F * M)) (G * 1) (F * c) (F * 32768) G 0
    exact false M e = omega (arith, ap (λ (y : ℕ). y * F * G) e)
    exact true M e = omega (arith, ap (λ (y : ℕ). y * F * G) e)

-- ---- moved up by 2 ^ 23 and the centre

abbrev pub centre : Float
centre = fin false 257 (pos 15)

module _ {x : Float} {c : ℕ} (h : Centred x c) where
  centre_value : HasValue (centre ⊕ x) false (8388608 + c) 1
  centre_value = let w = centred_value h in let l = h.most in go w.s w.M w.is w.at
    where
      go : (s : Bool) (M : ℕ) → HasValue x s M 1 → over s M + 32768 ≡ under s M + c → HasValue (centre ⊕ x) false (8388608 + c) 1
      go false M v e =
          let l = h.most in
          let q : 8421376 + M ≡ 8388608 + c = omega arith in
          subst (λ (z : Float). HasValue z false (8388608 + c) 1) (sym (add_up binary32 centre x 8421376 M 1 (zero-lt-suc 0) (refl, refl) v ∙ ap (λ (z : ℕ). round binary32 false z 1) q)) (round_whole binary32 false (8388608 + c) (omega arith))
      go true M v e =
          let l = h.most in
          let q : 8421376 - M ≡ 8388608 + c = omega arith in
          subst (λ (z : Float). HasValue z false (8388608 + c) 1) (sym (add_down binary32 centre x 8421376 M 1 (zero-lt-suc 0) (refl, refl) v (omega arith) ∙ ap (λ (z : ℕ). round binary32 false z 1) q)) (round_whole binary32 false (8388608 + c) (omega arith))

  pub back_number : T (not (is_nan (centre ⊕ x)))
  back_number = value_no_nan (centre ⊕ x) false (8388608 + c) 1 centre_value

  pub back_bits : to_bits binary32 (centre ⊕ x) ≡ 1258291200 + c
  back_bits = let l = h.most in grid_bits 0 (centre ⊕ x) (8388608 + c) (omega arith) (omega arith) (subst (λ (z : ℕ). HasValue (centre ⊕ x) false z 1) (sym (mul-one (8388608 + c))) centre_value) ∙ last c
    where
      last : (c : ℕ) → (149 + 0) * 8388608 + (8388608 + c) ≡ 1258291200 + c
      last c = omega arith
