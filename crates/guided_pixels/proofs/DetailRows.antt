-- The detail of a pixel, and a row of it in parts.
use Rattle.std.proofs.Common.{◌≡◌, refl, ap, ◌∙◌, List, ℕ, ◌+◌, ◌*◌, ◌≤◌, arith, Float}
use Rattle.laws.specs.Floats.{f32, ◌⊖◌}
use Rattle.laws.specs.Lists.{put, table}
use Rattle.laws.proofs.Lists.{put_same}
use Rattle.laws.proofs.Counts.{none_plus, plus_none}
use Rattle.image.specs.declared.layout.Layout.{Layout}
use Rattle.image.specs.Samples.{Plane, sample_at}
use Rattle.image.specs.Scratch.{cell_at, scratch_need}
use Rattle.guided.specs.Guided.{across_to, detail_of}
use Rattle.guided.specs.Scratch.{detail_at, column_at}
use Rattle.guided.proofs.Places.{column_behind}
use Rattle.guided_pixels.specs.Inner.Columns.{ColumnGiven}
use Rattle.guided_pixels.specs.Inner.Pixels.{detail_line, detail_in}
use Rattle.guided_pixels.specs.Inner.Lines.{line_run}
use Rattle.guided_pixels.specs.Inner.Across.{left_of, right_of, pixel_pairs}
use Rattle.guided_pixels.proofs.TwoPixels.{pair_left, pair_right, pairs_made}

-- the detail of a pixel
pub detail_is : (l : Layout) (g : ℕ → Float) (x : ℕ) (luma a u : Float) → a ≡ luma → u ≡ across_to l g x → a ⊖ u ≡ detail_of l g luma x
unfolding detail_of
detail_is l g x luma a u p q = rw (p, q) refl

-- ---- a row of detail

-- luma's row of cells lies behind the detail
pub detail_ready : (l : Layout) (src len : ℕ) → ColumnGiven l 0 src → scratch_need l ≤ len → (2 * l.w + l.w ≤ src) × (src + l.cw ≤ len)
detail_ready l src len o h =
    let e : src ≡ column_at l 0 = o.is in
    let k : 3 * l.w ≤ column_at l 0 = column_behind l 0 in
    (omega arith, omega (arith, o.fits))

-- a whole row is the run from 0
pub detail_line_is : (l : Layout) (p : Plane) (y src : ℕ) (s : List Float) → src ≡ column_at l 0 → line_run (λ s x. detail_in l p y s src x) (2 * l.w) 0 l.w s ≡ detail_line l p y s
unfolding line_run detail_line detail_at
detail_line_is l p y src s e =
    let f : ℕ → Float = λ x. detail_of l (cell_at s (column_at l 0)) (f32 (sample_at l.sample_bytes p y x)) x in
    rw e (ap (λ (a : ℕ). put s a l.w (λ i. f (0 + i))) (plus_none (2 * l.w)) ∙ put_same s (2 * l.w) l.w _ f (λ i k. ap f (none_plus i)))

-- ---- at ratio 2: the detail of eight cells' pixels, from the sixteen samples of luma that lie over them

pub detail_pairs : (l : Layout) (g : ℕ → Float) (y : ℕ → ℕ) (i : ℕ) (u v : List Float) → l.rh ≡ 2 → i + 10 ≤ l.cw
    → u ≡ table 8 (λ k. f32 (y (2 + 2 * i + 2 * k)) ⊖ left_of g (i + k)) → v ≡ table 8 (λ k. f32 (y (2 + 2 * i + (2 * k + 1))) ⊖ right_of g (i + k)) → record { left = u; right = v } ≡ pixel_pairs (λ x. detail_of l g (f32 (y x)) x) i
detail_pairs l g y i u v e h p q =
    let a : (k : ℕ) → 2 + 2 * i + 2 * k ≡ 2 + 2 * (i + k) = λ k. omega arith in
    let b : (k : ℕ) → 2 + 2 * i + (2 * k + 1) ≡ 2 + (2 * (i + k) + 1) = λ k. omega arith in
    pairs_made (λ x. detail_of l g (f32 (y x)) x) i _ _ u v p q
    (λ k q. detail_is l g (2 + 2 * (i + k)) (f32 (y (2 + 2 * (i + k)))) _ _ (ap (λ (n : ℕ). f32 (y n)) (a k)) (pair_left l g (i + k) e))
    (λ k q. detail_is l g (2 + (2 * (i + k) + 1)) (f32 (y (2 + (2 * (i + k) + 1)))) _ _ (ap (λ (n : ℕ). f32 (y n)) (b k)) (pair_right l g (i + k) e (omega arith)))
