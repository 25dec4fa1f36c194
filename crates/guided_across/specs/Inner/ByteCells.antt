-- The means of cells of bytes at ratio 2 across, as the inner functions' contracts say them. Definitions only.
use Rattle.std.specs.Prelude.{List, ℕ, ◌+◌, ◌*◌, get_or, Float}
use Rattle.laws.specs.Floats.{f32, ◌⊘◌}
use Rattle.laws.specs.Lists.{put}
use Rattle.laws.specs.Sums.{sum_to}

-- the sum of pair i of bytes of the row of a plane that begins at `at`
abbrev pub pair_sum : List ℕ → ℕ → ℕ → ℕ
pair_sum plane at i = get_or plane (at + 2 * i) 0 + get_or plane (at + (2 * i + 1)) 0

-- the sum of cell i: of pair i of each of m rows, the first of which begins at `at`
abbrev pub pairs_sum : List ℕ → ℕ → ℕ → ℕ → ℕ → ℕ
pairs_sum plane at stride m i = sum_to m (λ dy. pair_sum plane (at + dy * stride) i)

-- the mean of cell i, of two by m pixels
abbrev pub cell_mean : List ℕ → ℕ → ℕ → ℕ → ℕ → Float
cell_mean plane top stride m i = f32 (pairs_sum plane top stride m i) ⊘ f32 (2 * m)

-- the means of n cells, put at dst
unfoldable pub cell_run : List ℕ → ℕ → ℕ → ℕ → ℕ → ℕ → List Float → List Float
cell_run plane top stride m n dst s = put s dst n (cell_mean plane top stride m)
