-- The steps of a chroma row down over lent scratch, as the inner functions' contracts say them. Definitions only.
use Rattle.std.specs.Prelude.{List, ℕ, Float}
use Rattle.image.specs.declared.layout.Layout.{Layout}
use Rattle.image.specs.Samples.{Plane}
use Rattle.image.specs.declared.chroma.Chroma.{Chroma}
use Rattle.guided.specs.Scratch.{result_at, Least, Greatest, num_down}
use Rattle.guided_down.specs.Inner.Extremes.{extreme_row}
use Rattle.guided_down.specs.declared.picks.Pick.TheVariants.{Smaller, Greater}

-- a component's least and greatest samples round each cell of chroma row j, put into their buffers
unfoldable pub extreme_rows : Layout → Plane → Chroma → ℕ → List Float → List Float
extreme_rows l p k j s = extreme_row l p Greater j (result_at l (num_down (Greatest k)) j) (extreme_row l p Smaller j (result_at l (num_down (Least k)) j) s)
