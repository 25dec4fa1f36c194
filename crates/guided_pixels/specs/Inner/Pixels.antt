-- The pixels of a picture row over lent scratch, as the inner functions' contracts say them. Definitions only.
use Rattle.std.specs.Prelude.{List, ℕ, Float}
use Rattle.laws.specs.Floats.{f32}
use Rattle.laws.specs.Lists.{put}
use Rattle.image.specs.declared.layout.Layout.{Layout}
use Rattle.image.specs.Samples.{Plane, sample_at}
use Rattle.image.specs.Scratch.{cell_at}
use Rattle.guided.specs.Guided.{detail_of}
use Rattle.guided.specs.Scratch.{detail_at, column_at}

-- the detail of column x of row y by the cells at src
abbrev pub detail_in : Layout → Plane → ℕ → List Float → ℕ → ℕ → Float
detail_in l p y s src x = detail_of l (cell_at s src) (f32 (sample_at l.sample_bytes p y x)) x

-- the detail of all columns of row y by luma's row of cells, put where the detail lies
unfoldable pub detail_line : Layout → Plane → ℕ → List Float → List Float
detail_line l p y s = put s (detail_at l) l.w (λ x. detail_of l (cell_at s (column_at l 0)) (f32 (sample_at l.sample_bytes p y x)) x)
