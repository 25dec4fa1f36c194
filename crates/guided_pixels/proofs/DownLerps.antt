-- Rows of cells lerped down by a tap are the definition's.
use Rattle.std.proofs.Common.{◌≡◌, refl, ap, ◌∙◌, List, ℕ, ◌+◌, ◌≤◌, ◌<◌, arith, Float, set}
use lib.Ieee.{nan}
use Rattle.laws.proofs.Lists.{run_of, run_before}
use Rattle.guided_window.proofs.Puts.{put_more}
use Rattle.guided_window.specs.declared.buffers.Buffer.{Buffer}
use Rattle.guided_window.specs.declared.buffers.Buffer.TheVariants.{Luma, LumaSums, SquareSums, Cells, ProductSums, Slopes, Least, Greatest}
use Rattle.guided_window.specs.Inner.Buffers.{row_at}
use Rattle.guided.proofs.Held.{down_small}
use Rattle.laws.specs.Lists.{put}
use Rattle.image.specs.declared.layout.Layout.{Layout}
use Rattle.taps.specs.declared.positions.Tap.{Tap}
use Rattle.taps.specs.Taps.{lerp_of, tap_of}
use Rattle.image.specs.Scratch.{cell_at, scratch_need}
use Rattle.guided.specs.Guided.{down_to}
use Rattle.guided.specs.Scratch.{column_at, first_of, first_down, Slope, Least as DownLeast, Greatest as DownGreatest}
use Rattle.guided.proofs.Places.{first_few, slot_column, result_column}
use Rattle.guided_pixels.specs.Inner.Columns.{lerp_run, ColumnGiven, down_row}

-- a lerp more: the cells lie before what is written
pub lerps_more : (a b : ℕ) (f : Float) (n dst i : ℕ) (xs ys : List Float) → ys ≡ put xs dst i (λ k. lerp_of (cell_at xs a k) (cell_at xs b k) f) → a + n ≤ dst → b + n ≤ dst → i < n
    → (v : Float) → v ≡ lerp_of (cell_at ys a i) (cell_at ys b i) f → set ys (dst + i) v ≡ put xs dst (i + 1) (λ k. lerp_of (cell_at xs a k) (cell_at xs b k) f)
lerps_more a b f n dst i xs ys e h k l v p =
    let w = run_of xs ys dst i _ e in
    put_more xs ys dst i _ v e (p ∙ rw (run_before w (a + i) nan (omega arith), run_before w (b + i) nan (omega arith)) refl)

-- by the row's tap, from the places of its two rows
pub down_is : (l : Layout) (c : Buffer) (m y : ℕ) (t : Tap) (a b dst : ℕ) (s : List Float) → t ≡ tap_of l.rv l.ch y → a ≡ row_at l c t.i0 → b ≡ row_at l c t.i1 → dst ≡ column_at l m
    → lerp_run a b t.f l.cw dst s ≡ down_row l c m y s
unfolding lerp_run down_row down_to
down_is l c m y t a b dst s e p q r =
    rw (p, q, r) (ap (λ (u : Tap). put s (column_at l m) l.cw (λ i. lerp_of (cell_at s (row_at l c u.i0) i) (cell_at s (row_at l c u.i1) i) u.f)) e)

-- what the window holds lies before the rows of cells
row_column : (l : Layout) (c : Buffer) (r m : ℕ) → row_at l c r + l.cw ≤ column_at l m
row_column l Luma r m = slot_column l 0 r m (omega arith)
row_column l LumaSums r m = slot_column l 1 r m (omega arith)
row_column l SquareSums r m = slot_column l 2 r m (omega arith)
row_column l (Cells k) r m = let h = first_few k in slot_column l (first_of k) r m (omega arith)
row_column l (ProductSums k) r m = let h = first_few k in slot_column l (first_of k + 1) r m (omega arith)
row_column l (Slopes k) r m = result_column l (first_down k) r m (down_small (Slope k))
row_column l (Least k) r m = result_column l (first_down k + 1) r m (down_small (DownLeast k))
row_column l (Greatest k) r m = result_column l (first_down k + 2) r m (down_small (DownGreatest k))

pub down_ready : (l : Layout) (c : Buffer) (m i0 i1 a b dst len : ℕ) → ColumnGiven l m dst → a ≡ row_at l c i0 → b ≡ row_at l c i1 → scratch_need l ≤ len
    → (a + l.cw ≤ dst) × (b + l.cw ≤ dst) × (dst + l.cw ≤ len)
down_ready l c m i0 i1 a b dst len o p q k =
    let e : dst ≡ column_at l m = o.is in
    let x = row_column l c i0 m in
    let y = row_column l c i1 m in
    (omega arith, omega arith, omega (arith, o.fits))
