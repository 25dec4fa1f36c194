-- The steps of a picture row over lent scratch, as the inner functions' contracts say them. Definitions only.
use Rattle.std.specs.Prelude.{List, ℕ, ◌/◌, Float}
use Rattle.image.specs.declared.layout.Layout.{Layout}
use Rattle.image.specs.declared.chroma.Chroma.{Chroma}
use Rattle.image.specs.Picture.{Picture}
use Rattle.guided.specs.Scratch.{luma_column, detail_row, components_over}
use Rattle.guided_pixels.specs.Inner.Columns.{down_row}
use Rattle.guided_window.specs.declared.buffers.Buffer.TheVariants.{Cells, Slopes}
use Rattle.guided_pixels.specs.Inner.Values.{value_row}

-- a component's samples and slopes, lerped down for row y into the two rows of cells
unfoldable pub down_columns : Layout → Chroma → ℕ → List Float → List Float
down_columns l k y s = down_row l (Slopes k) 1 y (down_row l (Cells k) 0 y s)

-- a component's rows of cells for row y, and its finished row made of them
unfoldable pub component_row : Layout → Chroma → ℕ → List Float → List Float
component_row l k y s = value_row l k (y / l.rv) (down_columns l k y s)

-- picture row y of the components ks, from the window that scratch holds
abbrev pub window_row : Picture → List Chroma → ℕ → List Float → List Float
window_row p ks y s = components_over p y ks (detail_row p y (luma_column p y s))
