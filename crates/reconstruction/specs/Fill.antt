-- 'fill to RGB (linear or guided)'.

-- "The fill first rounds chroma to a whole number in 0..255", or to 256ths
pub use Rattle.colour_rows.specs.Colours.{colour_by}
-- W7: in studio range
pub use Rattle.colour_rows.specs.Colours.{studio_by, colour_in}
-- "A pixel has 3 or 4 bytes. The fourth keeps what it held."
unfoldable pub use Rattle.kernel_blocks.specs.Stores.{pixel, pixels}
-- each pixel's colour, and the promise
pub use Rattle.fill.specs.Tests.{FillCall, fill_call}
pub use Rattle.fill.specs.Fill.{chroma_by, fill_colour, pixel_rows, FillGiven}
-- W13: "convert again in place only the rows whose cell row is within two of it"
pub use Rattle.fill.specs.Refill.{RefillCall, refill_call, near_row, rows_where, RefillGiven}
