-- What C gets of a reading on a chart. Definitions only.
use Rattle.std.specs.Prelude.{◌≡◌, ℕ, Option, Some, None}
use Rattle.colorimetry.specs.declared.shade.Between.{Between}
use Rattle.colorimetry.specs.Charts.{ChartReply}
use Rattle.ffi.specs.declared.charts.ChromaChartReading.{ChromaChartReading}
use Rattle.ffi.specs.Types.{answer_number}

-- 1 for a reading, 0 for nothing
abbrev pub reading_given : Option ℕ → ℕ
reading_given (Some i) = 1
reading_given None = 0

-- what isn't given is 0
abbrev pub shade_index : Option ℕ → ℕ
shade_index (Some i) = i
shade_index None = 0

abbrev pub pair_of : Option Between → ℕ
pair_of (Some p) = p.first
pair_of None = 0

abbrev pub weight_of : Option Between → ℕ
weight_of (Some p) = p.weight
weight_of None = 0

unfoldable pub chroma_reading : ChartReply → ChromaChartReading
chroma_reading p = record {
  refusal = answer_number p.answer;
  given = reading_given p.nearest;
  pixels = p.pixels;
  nearest = shade_index p.nearest;
  pair = pair_of p.between;
  weight = weight_of p.between;
  nearest_off = p.nearest_off;
  between_off = p.between_off;
  whole = p.whole;
}

-- what `chroma_chart_reading` promises: the Rattle call's answer, of which `Given` holds
pub record ReadChart (Given : ChartReply → Type 0) (r : ChromaChartReading) : Type 0 where
  pub reading : ChartReply
  pub given : Given reading
  pub is : r ≡ chroma_reading reading
