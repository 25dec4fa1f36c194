-- A component's values over lent scratch, as the inner functions' contracts say them. Definitions only.
use Rattle.std.specs.Prelude.{◌≡◌, List, ℕ, ◌+◌, ◌*◌, ◌≤◌, ◌<◌, Float, get_or}
use Rattle.std.specs.Float.{nan}
use Rattle.laws.specs.Lists.{put}
use Rattle.image.specs.declared.layout.Layout.{Layout}
use Rattle.image.specs.declared.chroma.Chroma.{Chroma}
use Rattle.image.specs.Scratch.{cell_at}
use Rattle.guided.specs.Guided.{across_to, value_of}
use Rattle.guided.specs.Scratch.{detail_at, finished_at, result_at, Least, Greatest, num_down, column_at}
use Rattle.guided_pixels.specs.declared.value_inputs.ValueInputs.{ValueInputs}
use Rattle.guided_pixels.specs.declared.value_inputs.ValueCell.{ValueCell}

-- where the rows begin that a component's values in chroma row j are made of: the two rows of cells, and its extremes
unfoldable pub inputs_of : Layout → Chroma → ℕ → ValueInputs
inputs_of l k j = record { cells = column_at l 0; slopes = column_at l 1; least = result_at l (num_down (Least k)) j; greatest = result_at l (num_down (Greatest k)) j }

-- a row of n cells lies behind the first `low` values and within `len`
pub record CellsInside (at low n len : ℕ) : Type 0 where
  pub behind : low ≤ at
  pub fits : at + n ≤ len

-- the four rows that values are made of lie behind the first `low` values and within `len`
pub record InputsInside (t : ValueInputs) (low n len : ℕ) : Type 0 where
  pub cells : CellsInside t.cells low n len
  pub slopes : CellsInside t.slopes low n len
  pub least : CellsInside t.least low n len
  pub greatest : CellsInside t.greatest low n len

-- a component's value in column x, from its rows of cells and the detail
unfoldable pub value_at : Layout → List Float → ValueInputs → ℕ → Float
value_at l s t x = value_of l (cell_at s t.cells) (cell_at s t.slopes) (cell_at s t.least) (cell_at s t.greatest) (cell_at s (detail_at l) x) x

-- what is known of cell i that was lerped: its pixels' cells and slopes, and its limits
pub record CellGiven (l : Layout) (t : ValueInputs) (s : List Float) (i : ℕ) (c : ValueCell) : Type 0 where
  pub cells : (k : ℕ) → k < l.rh → get_or c.cells k nan ≡ across_to l (cell_at s t.cells) (i * l.rh + k)
  pub slopes : (k : ℕ) → k < l.rh → get_or c.slopes k nan ≡ across_to l (cell_at s t.slopes) (i * l.rh + k)
  pub least : c.least ≡ cell_at s t.least i
  pub greatest : c.greatest ≡ cell_at s t.greatest i

-- a component's values in all columns, put where its finished row lies
unfoldable pub value_row : Layout → Chroma → ℕ → List Float → List Float
value_row l k j s = put s (finished_at l k) l.w (value_at l s (inputs_of l k j))
