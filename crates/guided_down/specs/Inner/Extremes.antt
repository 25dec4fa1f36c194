-- The least and greatest samples round the cells of a chroma row, as the inner functions' contracts say them. Definitions only.
use Rattle.std.specs.Prelude.{List, ℕ, ◌+◌, Float}
use Rattle.laws.specs.Lists.{put}
use Rattle.image.specs.declared.layout.Layout.{Layout}
use Rattle.image.specs.Samples.{Plane, sample_at}
use Rattle.fround.specs.Rounding.{fmin, fmax}
use Rattle.guided.specs.Guided.{extreme_of}
use Rattle.guided.specs.Events.{three_n}
use Rattle.guided_down.specs.Inner.Nines.{whole_op}
use Rattle.guided_down.specs.declared.picks.Pick.{Pick}
use Rattle.guided_down.specs.declared.picks.Pick.TheVariants.{Smaller, Greater}

-- the greater or the smaller of two floats
abbrev pub op_of : Pick → Float → Float → Float
op_of Greater = fmax
op_of Smaller = fmin

-- the extremes round cells from, .. from + n - 1 of chroma row j, put at dst + from
unfoldable pub extreme_run : Layout → Plane → Pick → ℕ → ℕ → ℕ → ℕ → List Float → List Float
extreme_run l p pick j dst from n s = put s (dst + from) n (λ i. extreme_of l (op_of pick) (sample_at l.sample_bytes p) j (from + i))

-- the extremes round all cells of chroma row j, put at dst
unfoldable pub extreme_row : Layout → Plane → Pick → ℕ → ℕ → List Float → List Float
extreme_row l p pick j dst s = put s dst l.cw (extreme_of l (op_of pick) (sample_at l.sample_bytes p) j)

-- ---- in whole numbers

-- the extreme of the three by three samples round cell i of row j, `c j i` being the samples
unfoldable pub whole_extreme : Layout → Pick → (ℕ → ℕ → ℕ) → ℕ → ℕ → ℕ
whole_extreme l pick c j i = three_n (whole_op pick) l.ch (λ r. three_n (whole_op pick) l.cw (λ q. c r q) i) j
