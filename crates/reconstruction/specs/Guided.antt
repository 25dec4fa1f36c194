-- 'Guided (`GuidedRows`), rows with edges repeated, every operation rounded once, in the order written'.

-- "Cell luma y: the sum over the cell's pixels inside the picture, divided by their number."
pub use Rattle.guided.specs.Guided.{luma_of}
-- "Across, (left + middle) + right for y, y·y, c and y·c, and the least and greatest c."
pub use Rattle.guided.specs.Guided.{three, Across, across_val, extreme}
-- "Down, mean = ((up + middle) + down) · (1/9)", "D = max(mean yy − my·my, 0) + eps", "Slope a = (mean yc − my·mc)/D."
pub use Rattle.guided.specs.Guided.{mean, epsilon, slope_of}
-- "Row y: lerp y, c and a down by the tap, then across by the pixel's phase", "Value = c + a·(luma − y), then raised to the least and lowered to the greatest c"
pub use Rattle.guided.specs.Guided.{down_to, across_to, detail_of, value_of, guided_sample, guided_row}
-- one whole chroma plane, guided
pub use Rattle.guided_plane.specs.Plane.{guided_plane, GuidedGiven}
