-- A component's values in the pixels of a cell, and at ratio 1.
use Rattle.std.proofs.Common.{◌≡◌, refl, ap, ◌∙◌, ℕ, ◌+◌, ◌*◌, ◌/◌, ◌<◌, div-one, Float}
use lib.Arith.{digits_div}
use Rattle.laws.specs.Floats.{f32, ◌⊕◌, ◌⊗◌}
use Rattle.image.specs.declared.layout.Layout.{Layout}
use Rattle.fround.specs.Rounding.{fmin, fmax}
use Rattle.taps.specs.Taps.{lerp_of}
use Rattle.guided.specs.Guided.{across_to, value_of}
use Rattle.guided_pixels.proofs.Phases.{one_is}

module _ (l : Layout) (gc ga lo hi : ℕ → Float) (d u v : Float) where
  -- pixel k of cell i
  pub value_pixel : (i k : ℕ) → k < l.rh → u ≡ across_to l gc (i * l.rh + k) → v ≡ across_to l ga (i * l.rh + k) → fmin (fmax (u ⊕ v ⊗ d) (lo i)) (hi i) ≡ value_of l gc ga lo hi d (i * l.rh + k)
  unfolding value_of
  value_pixel i k h p q = rw (digits_div i h, p, q) refl

  -- cell x, which is pixel x
  pub value_one : (x : ℕ) → l.rh ≡ 1 → x + 1 < l.cw → u ≡ lerp_of (gc x) (gc (x + 1)) (f32 0) → v ≡ lerp_of (ga x) (ga (x + 1)) (f32 0) → fmin (fmax (u ⊕ v ⊗ d) (lo x)) (hi x) ≡ value_of l gc ga lo hi d x
  unfolding value_of
  value_one x e h p q =
      let n : x / l.rh ≡ x = ap (λ (r : ℕ). x / r) e ∙ div-one x in
      rw (n, p ∙ one_is l gc x e h, q ∙ one_is l ga x e h) refl
