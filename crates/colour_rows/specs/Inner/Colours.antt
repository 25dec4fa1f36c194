-- A row of colour as the inner functions store it, from luma's plane and the finished rows of chroma that lie in scratch, Cb's at 0 and Cr's
-- at w. Definitions only.
use Rattle.std.specs.Prelude.{List, ℕ, Float}
use Rattle.image.specs.declared.layout.Layout.{Layout}
use Rattle.image.specs.Samples.{Plane, sample_at, seen}
use Rattle.image.specs.Scratch.{cell_at}
use Rattle.kernels.specs.Kernels.{Colour}
use Rattle.kernel_blocks.specs.Stores.{pixels}
use Rattle.kernels.specs.declared.kernel.YcbcrKernel.{YcbcrKernel}
use Rattle.colour_rows.specs.Colours.{colour_in}
use Rattle.colour_rows.specs.declared.lent.LentRow.{LentRow}

-- the colour of column x in a lent row, where `colour` gives a pixel's from its luma and its chroma
unfoldable pub lent_pixel : (ℕ → Float → Float → Colour) → LentRow → ℕ → Colour
lent_pixel colour t x = colour (sample_at t.layout.sample_bytes (seen t.plane) t.row x) (cell_at t.s.now 0 x) (cell_at t.s.now t.layout.w x)

-- the output after such a row's w pixels, `size` bytes each, were stored from `at` on
unfoldable pub lent_row : (ℕ → Float → Float → Colour) → LentRow → ℕ → ℕ → List ℕ → List ℕ
lent_row colour t at size out = pixels out at size (lent_pixel colour t) t.layout.w

-- the two for row y by themselves, in the range of the layout
unfoldable pub ranged_pixel : YcbcrKernel → Layout → Plane → ℕ → List Float → ℕ → Colour
ranged_pixel kernel l p y s x = colour_in l.range kernel l.maxval (sample_at l.sample_bytes p y x) (cell_at s 0 x) (cell_at s l.w x)

unfoldable pub ranged_row : YcbcrKernel → Layout → Plane → ℕ → List Float → ℕ → ℕ → List ℕ → List ℕ
ranged_row kernel l p y s at size out = pixels out at size (ranged_pixel kernel l p y s) l.w
