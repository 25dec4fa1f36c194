-- Ratio 2: the phases of a cell's two pixels, and those of eight cells side by side.
-- `pair_left` and `pair_right` find the phases. A vector's lanes are a table, so that what is told of one cell is told of each of eight by `table_same`.
use Rattle.std.proofs.Common.{◌≡◌, refl, ap, ◌∙◌, ℕ, ◌+◌, ◌-◌, ◌*◌, ◌/◌, ◌%◌, ◌<◌, min, arith, Float, List}
use Rattle.laws.specs.Lists.{table}
use Rattle.laws.proofs.Lists.{table_same}
use Rattle.image.specs.declared.layout.Layout.{Layout}
use Rattle.taps.specs.Taps.{lerp_of, fraction_of, phase_of}
use Rattle.guided.specs.Guided.{across_to}
use Rattle.guided_pixels.specs.declared.pairs.Pairs.{Pairs}
use Rattle.guided_pixels.specs.Inner.Across.{left_of, right_of, pairs_of, pixel_pairs}

pub pair_left : (l : Layout) (g : ℕ → Float) (i : ℕ) → l.rh ≡ 2 → left_of g i ≡ across_to l g (2 + 2 * i)
unfolding left_of across_to phase_of
pair_left l g i e =
    let q : (2 + 2 * i) / 2 ≡ i + 1 = omega arith in
    let r : (2 + 2 * i) % 2 ≡ 0 = omega arith in
    let m : i + 1 - 1 ≡ i = omega arith in
    rw (e, q, r, m) refl

pub pair_right : (l : Layout) (g : ℕ → Float) (i : ℕ) → l.rh ≡ 2 → i + 2 < l.cw → right_of g i ≡ across_to l g (2 + (2 * i + 1))
unfolding right_of across_to phase_of
pair_right l g i e k =
    let q : (2 + (2 * i + 1)) / 2 ≡ i + 1 = omega arith in
    let r : (2 + (2 * i + 1)) % 2 ≡ 1 = omega arith in
    let m : min (i + 1 + 1) (l.cw - 1) ≡ i + 2 = omega arith in
    rw (e, q, r, m) refl

-- eight cells' pixels, by three runs of eight cells
pub pairs_are : (g : ℕ → Float) (i : ℕ) (u v : List Float) → u ≡ table 8 (λ k. lerp_of (g (i + k)) (g (i + 1 + k)) (fraction_of 3 4)) → v ≡ table 8 (λ k. lerp_of (g (i + 1 + k)) (g (i + 2 + k)) (fraction_of 1 4)) → record { left = u; right = v } ≡ pairs_of g i
unfolding pairs_of left_of right_of
pairs_are g i u v p q =
    let a : (k : ℕ) → i + 1 + k ≡ i + k + 1 = λ k. omega arith in
    let b : (k : ℕ) → i + 2 + k ≡ i + k + 2 = λ k. omega arith in
    rw (
      p ∙ table_same 8 _ (λ k. lerp_of (g (i + k)) (g (i + k + 1)) (fraction_of 3 4)) (λ k h. rw (a k) refl),
      q ∙ table_same 8 _ (λ k. lerp_of (g (i + k + 1)) (g (i + k + 2)) (fraction_of 1 4)) (λ k h. rw (a k, b k) refl),
    ) refl

-- a row's pixels, by what each of eight cells has
pub pairs_made : (f : ℕ → Float) (i : ℕ) (g h : ℕ → Float) (u v : List Float) → u ≡ table 8 g → v ≡ table 8 h
    → ((k : ℕ) → k < 8 → g k ≡ f (2 + 2 * (i + k))) → ((k : ℕ) → k < 8 → h k ≡ f (2 + (2 * (i + k) + 1))) → record { left = u; right = v } ≡ pixel_pairs f i
unfolding pixel_pairs
pairs_made f i g h u v d e p q = rw (d ∙ table_same 8 g _ p, e ∙ table_same 8 h _ q) refl

-- and counted from the first of them on, as they stand one after the other
pub in_turn : (f : ℕ → Float) (i : ℕ) (p : Pairs) → p ≡ pixel_pairs f i → p ≡ record { left = table 8 (λ k. f (2 + 2 * i + 2 * k)); right = table 8 (λ k. f (2 + 2 * i + (2 * k + 1))) }
unfolding pixel_pairs
in_turn f i p e =
    let a : (k : ℕ) → 2 + 2 * (i + k) ≡ 2 + 2 * i + 2 * k = λ k. omega arith in
    let b : (k : ℕ) → 2 + (2 * (i + k) + 1) ≡ 2 + 2 * i + (2 * k + 1) = λ k. omega arith in
    e ∙ rw (table_same 8 (λ k. f (2 + 2 * (i + k))) (λ k. f (2 + 2 * i + 2 * k)) (λ k h. ap f (a k)), table_same 8 (λ k. f (2 + (2 * (i + k) + 1))) (λ k. f (2 + 2 * i + (2 * k + 1))) (λ k h. ap f (b k))) refl
