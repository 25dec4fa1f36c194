-- Where the row buffers lie, as the inner functions' contracts say it. Definitions only.
use Rattle.std.specs.Prelude.{◌≡◌, ℕ, ◌+◌, ◌-◌, ◌≤◌, min}
use Rattle.image.specs.declared.layout.Layout.{Layout}
use Rattle.image.specs.Scratch.{scratch_need}
use Rattle.guided.specs.Scratch.{buffer_at, slot_at, result_at, first_of, first_down}
use Rattle.guided_window.specs.declared.buffers.Window.{Window}
use Rattle.guided_window.specs.declared.buffers.Buffer.{Buffer}
use Rattle.guided_window.specs.declared.buffers.Buffer.TheVariants.{Luma, LumaSums, SquareSums, Cells, ProductSums, Slopes, Least, Greatest}

-- what `buffer_at` promises: row buffer n, and that it ends within scratch
pub record BufferGiven (l : Layout) (n at : ℕ) : Type 0 where
  pub is : at ≡ buffer_at l n
  pub fits : at + l.cw ≤ scratch_need l

-- what `slot_at` promises: buffer n of chroma row r, and that it ends within scratch
pub record SlotGiven (l : Layout) (n r at : ℕ) : Type 0 where
  pub is : at ≡ slot_at l n r
  pub fits : at + l.cw ≤ scratch_need l

-- what `result_at` promises: result n of chroma row r, and that it ends within scratch
pub record ResultGiven (l : Layout) (n r at : ℕ) : Type 0 where
  pub is : at ≡ result_at l n r
  pub fits : at + l.cw ≤ scratch_need l

-- where a buffer of chroma row r begins
abbrev pub row_at : Layout → Buffer → ℕ → ℕ
row_at l Luma r = slot_at l 0 r
row_at l LumaSums r = slot_at l 1 r
row_at l SquareSums r = slot_at l 2 r
row_at l (Cells k) r = slot_at l (first_of k) r
row_at l (ProductSums k) r = slot_at l (first_of k + 1) r
row_at l (Slopes k) r = result_at l (first_down k) r
row_at l (Least k) r = result_at l (first_down k + 1) r
row_at l (Greatest k) r = result_at l (first_down k + 2) r

-- what `row_at` promises: that place, and that the row ends within scratch
pub record RowAt (l : Layout) (b : Buffer) (r at : ℕ) : Type 0 where
  pub is : at ≡ row_at l b r
  pub fits : at + l.cw ≤ scratch_need l

-- a buffer of the rows above, at and below chroma row j, edges repeated
unfoldable pub window_of : Layout → Buffer → ℕ → Window
window_of l b j = record { up = row_at l b (j - 1); at = row_at l b j; down = row_at l b (min (j + 1) (l.ch - 1)) }

-- the places n further on in these rows
abbrev pub on : Window → ℕ → Window
on t n = record { up = t.up + n; at = t.at + n; down = t.down + n }
