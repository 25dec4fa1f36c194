-- The steps of a chroma row's sums over lent scratch, as the inner functions' contracts say them. Definitions only.
use Rattle.std.specs.Prelude.{◌≡◌, List, ℕ, ◌+◌, ◌*◌, ◌<◌, Float, get_or}
use Rattle.std.specs.Float.{nan}
use Rattle.laws.specs.Floats.{f32, ◌⊕◌, ◌⊗◌}
use Rattle.laws.specs.Lists.{put}
use Rattle.image.specs.Samples.{sample_of}
use Rattle.image.specs.Scratch.{cell_at}
use Rattle.guided.specs.Guided.{three}

-- n samples of a plane from byte `at` on, put at dst
unfoldable pub load_run : List ℕ → ℕ → ℕ → ℕ → ℕ → List Float → List Float
load_run plane bytes at n dst s = put s dst n (λ i. f32 (sample_of bytes plane (at + i * bytes)))

-- what is summed: the cells of the row at src
abbrev pub cells_at : ℕ → List Float → ℕ → Float
cells_at src s i = cell_at s src i

-- what is summed: the products of the rows at a and b, cell by cell
abbrev pub products_at : ℕ → ℕ → List Float → ℕ → Float
products_at a b s i = cell_at s a i ⊗ cell_at s b i

-- values from, .. from + m - 1 of the sums of three neighbours of n, edges repeated, put at dst + from
unfoldable pub three_run : (List Float → ℕ → Float) → ℕ → ℕ → ℕ → ℕ → List Float → List Float
three_run g n dst from m s = put s (dst + from) m (λ i. three ◌⊕◌ n (g s) (from + i))

-- all n sums of three neighbours, edges repeated, put at dst
unfoldable pub three_row : (List Float → ℕ → Float) → ℕ → ℕ → List Float → List Float
three_row g n dst s = put s dst n (three ◌⊕◌ n (g s))

-- what is summed is made of what lies before dst: what is stored behind leaves it
pub record Behind (g : List Float → ℕ → Float) (n dst : ℕ) : Type 0 where
  pub keeps : (xs ys : List Float) → ((k : ℕ) → k < dst → get_or ys k nan ≡ get_or xs k nan) → (i : ℕ) → i < n → g ys i ≡ g xs i
