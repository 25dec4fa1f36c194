-- A component's values at ratio 2.
use Rattle.std.proofs.Common.{◌≡◌, refl, ap, ◌∙◌, List, ℕ, ◌+◌, ◌*◌, ◌/◌, ◌≤◌, ◌<◌, arith, get_or, Float}
use Rattle.std.specs.Float.{nan}
use Rattle.laws.specs.Floats.{◌⊕◌, ◌⊗◌}
use Rattle.laws.specs.Lists.{table}
use Rattle.image.specs.Scratch.{cell_at}
use Rattle.guided.specs.Scratch.{detail_at}
use Rattle.guided_pixels.specs.declared.value_inputs.ValueInputs.{ValueInputs}
use Rattle.guided_pixels.specs.Inner.Values.{value_at}
use Rattle.image.specs.declared.layout.Layout.{Layout}
use Rattle.guided.specs.Guided.{value_of}
use Rattle.fround.specs.Rounding.{fmin, fmax}
use Rattle.guided_pixels.specs.Inner.Across.{left_of, right_of, pixel_pairs}
use Rattle.guided_pixels.proofs.TwoPixels.{pair_left, pair_right, pairs_made}

module _ (l : Layout) (gc ga lo hi : ℕ → Float) (d : Float) (i : ℕ) (e : l.rh ≡ 2) where
  pub value_left : fmin (fmax (left_of gc i ⊕ left_of ga i ⊗ d) (lo (i + 1))) (hi (i + 1)) ≡ value_of l gc ga lo hi d (2 + 2 * i)
  unfolding value_of
  value_left =
      let n : (2 + 2 * i) / 2 ≡ i + 1 = omega arith in
      rw (pair_left l gc i e, pair_left l ga i e, ap (λ (k : ℕ). (2 + 2 * i) / k) e ∙ n) refl

  pub value_right : i + 2 < l.cw → fmin (fmax (right_of gc i ⊕ right_of ga i ⊗ d) (lo (i + 1))) (hi (i + 1)) ≡ value_of l gc ga lo hi d (2 + (2 * i + 1))
  unfolding value_of
  value_right k =
      let n : (2 + (2 * i + 1)) / 2 ≡ i + 1 = omega arith in
      rw (pair_right l gc i e k, pair_right l ga i e k, ap (λ (k : ℕ). (2 + (2 * i + 1)) / k) e ∙ n) refl

-- those of eight cells, from cell i + 1 on, by the detail as it lies in scratch
pub value_pairs : (l : Layout) (s : List Float) (t : ValueInputs) (i : ℕ) (u v : List Float) → l.rh ≡ 2 → i + 10 ≤ l.cw
    → u ≡ table 8 (λ k. fmin (fmax (left_of (cell_at s t.cells) (i + k) ⊕ left_of (cell_at s t.slopes) (i + k) ⊗ get_or s (2 * l.w + (2 + 2 * i) + 2 * k) nan) (get_or s (t.least + (i + 1) + k) nan)) (get_or s (t.greatest + (i + 1) + k) nan))
    → v ≡ table 8 (λ k. fmin (fmax (right_of (cell_at s t.cells) (i + k) ⊕ right_of (cell_at s t.slopes) (i + k) ⊗ get_or s (2 * l.w + (2 + 2 * i) + (2 * k + 1)) nan) (get_or s (t.least + (i + 1) + k) nan)) (get_or s (t.greatest + (i + 1) + k) nan))
    → record { left = u; right = v } ≡ pixel_pairs (value_at l s t) i
unfolding value_at detail_at
value_pairs l s t i u v e h p q =
    let gc : ℕ → Float = cell_at s t.cells in
    let ga : ℕ → Float = cell_at s t.slopes in
    let lo : ℕ → Float = cell_at s t.least in
    let hi : ℕ → Float = cell_at s t.greatest in
    let a : (k : ℕ) → 2 * l.w + (2 + 2 * i) + 2 * k ≡ 2 * l.w + (2 + 2 * (i + k)) = λ k. omega arith in
    let b : (k : ℕ) → 2 * l.w + (2 + 2 * i) + (2 * k + 1) ≡ 2 * l.w + (2 + (2 * (i + k) + 1)) = λ k. omega arith in
    let c : (k : ℕ) → t.least + (i + 1) + k ≡ t.least + (i + k + 1) = λ k. omega arith in
    let d : (k : ℕ) → t.greatest + (i + 1) + k ≡ t.greatest + (i + k + 1) = λ k. omega arith in
    pairs_made (value_at l s t) i _ _ u v p q
    (λ k n. rw (a k, c k, d k) (value_left l gc ga lo hi _ (i + k) e))
    (λ k n. rw (b k, c k, d k) (value_right l gc ga lo hi _ (i + k) e (omega arith)))
