-- 'Reasons for turning a call down'.

-- "The lowest number that applies is given, and only then"
pub use Rattle.laws.specs.Refusals.{Answer, number_of, Test, accepted, first, place_of, Ascending, Applies, Lowest}
-- the rows of the table, and the lists of the calls
pub use Rattle.image.specs.Tests.{bad_size, bad_pair, bad_ratio, bad_samples, bad_range, bad_chroma, bad_siting, bad_plane, tests_for, layout_tests}
-- W6: "look at all samples inside the planes lent and turn the picture down if one exceeds maxval"
pub use Rattle.image.specs.Limits.{any_of, above, above_any}
-- W13: "A rectangle with a cell outside the chroma plane gets 19"; "luma samples that differ, or chroma that differs outside the rectangle, gets 21"
pub use Rattle.image.specs.Rectangles.{is_empty, holds_cell, past_cells}
pub use Rattle.image.specs.Differences.{sample_differs, differs, differs_outside, other_change}
pub use Rattle.guided.specs.Calls.{bad_state, open_tests, seek_tests, row_tests}
pub use Rattle.linear.specs.Linear.{linear_tests}
pub use Rattle.guided_plane.specs.Plane.{guided_tests}
pub use Rattle.upsample.specs.Triangular.{bad_triangular, triangular_tests}
pub use Rattle.fill.specs.Tests.{fill_tests}
pub use Rattle.fill.specs.Refill.{refill_tests}
pub use Rattle.kernels.specs.Pixels.{bad_exact, exact_tests, fixed_tests}
pub use Rattle.image.specs.Picture.{bad_planes}
unfoldable pub use Rattle.rgb_rows.specs.RgbRows.{rgb_row_tests}
