-- The rows of cells of a picture row over lent scratch, as the inner functions' contracts say them. Definitions only.
use Rattle.std.specs.Prelude.{◌≡◌, List, ℕ, ◌+◌, ◌≤◌, Float}
use Rattle.laws.specs.Lists.{put}
use Rattle.image.specs.declared.layout.Layout.{Layout}
use Rattle.taps.specs.Taps.{lerp_of}
use Rattle.image.specs.Scratch.{scratch_need, cell_at}
use Rattle.guided.specs.Guided.{down_to}
use Rattle.guided.specs.Scratch.{column_at}
use Rattle.guided_window.specs.declared.buffers.Buffer.{Buffer}
use Rattle.guided_window.specs.Inner.Buffers.{row_at}
use Rattle.guided_pixels.specs.declared.columns.RowOfCells.{RowOfCells}
use Rattle.guided_pixels.specs.declared.columns.RowOfCells.TheVariants.{Samples, Slopes}

-- a row of cells by its number
abbrev pub num_row : RowOfCells → ℕ
num_row Samples = 0
num_row Slopes = 1

-- the n cells at a and at b, lerped by f, put at dst
unfoldable pub lerp_run : ℕ → ℕ → Float → ℕ → ℕ → List Float → List Float
lerp_run a b f n dst s = put s dst n (λ i. lerp_of (cell_at s a i) (cell_at s b i) f)

-- what `column_at` promises: row of cells m, and that it ends within scratch
pub record ColumnGiven (l : Layout) (m at : ℕ) : Type 0 where
  pub is : at ≡ column_at l m
  pub fits : at + l.cw ≤ scratch_need l

-- a buffer of the window, lerped down for picture row y, put into row of cells m
unfoldable pub down_row : Layout → Buffer → ℕ → ℕ → List Float → List Float
down_row l b m y s = put s (column_at l m) l.cw (down_to l (λ r i. cell_at s (row_at l b r) i) y)
