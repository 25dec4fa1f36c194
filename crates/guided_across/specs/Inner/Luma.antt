-- The luma of a chroma row's cells, as the inner functions' contracts say it. Definitions only.
use Rattle.std.specs.Prelude.{◌≡◌, false, List, ℕ, ◌+◌, Float}
use Rattle.laws.specs.Lists.{put}
use Rattle.image.specs.declared.layout.Layout.{Layout}
use Rattle.image.specs.Inner.Tests.{Sound}
use Rattle.image.specs.Samples.{Plane, sample_at}
use Rattle.image.specs.Picture.{short_plane}
use Rattle.laws.specs.Sums.{sum_to}
use Rattle.guided.specs.Guided.{luma_of}

-- what is known of a layout and its luma plane: the layout passed its tests, and the plane holds all pixels
pub record LumaPixels (l : Layout) (p : Plane) : Type 0 where
  pub sound : Sound l
  pub plane : short_plane l l.w l.h p ≡ false

-- the sum of the n samples of row y from column x on
unfoldable pub row_sum : Layout → Plane → ℕ → ℕ → ℕ → ℕ
row_sum l p x y n = sum_to n (λ dx. sample_at l.sample_bytes p y (x + dx))

-- the sum of the n samples from column x on in each of the m rows from row y on
unfoldable pub cell_sum : Layout → Plane → ℕ → ℕ → ℕ → ℕ → ℕ
cell_sum l p x y n m = sum_to m (λ dy. row_sum l p x (y + dy) n)

-- the luma of cells from, .. from + n - 1 of chroma row j, put at dst + from
unfoldable pub luma_run : Layout → Plane → ℕ → ℕ → ℕ → ℕ → List Float → List Float
luma_run l p j dst from n s = put s (dst + from) n (λ i. luma_of l (sample_at l.sample_bytes p) j (from + i))

-- the luma of all cells of chroma row j, put at dst
unfoldable pub luma_row : Layout → Plane → ℕ → ℕ → List Float → List Float
luma_row l p j dst s = put s dst l.cw (luma_of l (sample_at l.sample_bytes p) j)
