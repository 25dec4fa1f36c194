-- The slopes of a chroma row over lent scratch, as the inner functions' contracts say them. Definitions only.
use Rattle.std.specs.Prelude.{◌≡◌, List, ℕ, ◌+◌, ◌-◌, ◌≤◌, Float}
use Rattle.laws.specs.Floats.{f32, ◌⊕◌, ◌⊖◌, ◌⊗◌, ◌⊘◌}
use Rattle.laws.specs.Lists.{put}
use Rattle.fround.specs.Rounding.{fmax}
use Rattle.image.specs.Scratch.{cell_at}
use Rattle.image.specs.declared.layout.Layout.{Layout}
use Rattle.image.specs.declared.chroma.Chroma.{Chroma}
use Rattle.image.specs.declared.chroma.Chroma.TheVariants.{Cb, Cr}
use Rattle.guided.specs.Guided.{three, slope_of}
use Rattle.guided.specs.Scratch.{result_at, Slope, num_down, read_across}
use Rattle.guided_window.specs.Inner.Buffers.{window_of}
use Rattle.guided_window.specs.declared.buffers.Window.{Window}
use Rattle.guided_window.specs.declared.buffers.Buffer.TheVariants.{LumaSums, SquareSums, Cells, ProductSums}
use Rattle.guided_down.specs.declared.neighbours.Neighbours.{Neighbours}
use Rattle.guided_down.specs.declared.slopes.Stats.{Stats}

-- "D = max(mean yy − my·my, 0) + eps. Slope a = (mean yc − my·mc)/D.", by the means
unfoldable pub slope_by : Float → Float → Float → Float → Float → Float
slope_by y yy c yc eps = (yc ⊖ y ⊗ c) ⊘ (fmax (yy ⊖ y ⊗ y) (f32 0) ⊕ eps)

-- "mean = ((up + middle) + down) · (1/9)", of cell i of a window's three rows of sums
unfoldable pub mean_at : List Float → Window → ℕ → Float
mean_at s t i = (cell_at s t.up i ⊕ cell_at s t.at i ⊕ cell_at s t.down i) ⊗ (f32 1 ⊘ f32 9)

-- the same of three rows of n samples, whose sums of three neighbours are formed again
unfoldable pub mean_over : List Float → Window → ℕ → ℕ → Float
mean_over s t n i = (three ◌⊕◌ n (cell_at s t.up) i ⊕ three ◌⊕◌ n (cell_at s t.at) i ⊕ three ◌⊕◌ n (cell_at s t.down) i) ⊗ (f32 1 ⊘ f32 9)

-- the slope at cell i, the component's mean being c
unfoldable pub slope_with : List Float → Stats → Float → Float → ℕ → Float
slope_with s t eps c i = slope_by (mean_at s t.y i) (mean_at s t.yy i) c (mean_at s t.yc i) eps

-- the slope at cell i of n
unfoldable pub slope_at : List Float → Stats → ℕ → Float → ℕ → Float
slope_at s t n eps i = slope_with s t eps (mean_over s t.c n i) i

-- the same of a cell that has a neighbour on both sides
unfoldable pub sum_inside : List Float → ℕ → ℕ → Float
sum_inside s src i = cell_at s src (i - 1) ⊕ cell_at s src i ⊕ cell_at s src (i + 1)

unfoldable pub mean_inside : List Float → Window → ℕ → Float
mean_inside s t i = (sum_inside s t.up i ⊕ sum_inside s t.at i ⊕ sum_inside s t.down i) ⊗ (f32 1 ⊘ f32 9)

unfoldable pub slope_inside : List Float → Stats → Float → ℕ → Float
slope_inside s t eps i = slope_with s t eps (mean_inside s t.c i) i

-- the same of any cell, by its neighbours across
unfoldable pub sum_round : List Float → ℕ → Neighbours → Float
sum_round s src c = cell_at s src c.left ⊕ cell_at s src c.at ⊕ cell_at s src c.right

unfoldable pub mean_round : List Float → Window → Neighbours → Float
mean_round s t c = (sum_round s t.up c ⊕ sum_round s t.at c ⊕ sum_round s t.down c) ⊗ (f32 1 ⊘ f32 9)

unfoldable pub slope_round : List Float → Stats → Float → Neighbours → Float
slope_round s t eps c = slope_with s t eps (mean_round s t.c c) c.at

-- the slopes at n cells, put at dst
unfoldable pub slope_run : Stats → Float → ℕ → ℕ → List Float → List Float
slope_run t eps dst n s = put s dst n (slope_at s t n eps)

-- those at m of n cells from cell i on, and at m cells that have neighbours on both sides
unfoldable pub slopes_from : Stats → Float → ℕ → ℕ → ℕ → ℕ → List Float → List Float
slopes_from t eps n dst i m s = put s (dst + i) m (λ k. slope_at s t n eps (i + k))

unfoldable pub slopes_inside : Stats → Float → ℕ → ℕ → ℕ → List Float → List Float
slopes_inside t eps dst i m s = put s (dst + i) m (λ k. slope_inside s t eps (i + k))

-- the first n cells of a window's three buffers lie within `len` values
pub record Inside (t : Window) (n len : ℕ) : Type 0 where
  pub up : t.up + n ≤ len
  pub at : t.at + n ≤ len
  pub down : t.down + n ≤ len

-- the first n cells of all twelve buffers lie within `len` values
pub record AllInside (t : Stats) (n len : ℕ) : Type 0 where
  pub y : Inside t.y n len
  pub yy : Inside t.yy n len
  pub c : Inside t.c n len
  pub yc : Inside t.yc n len

-- a window's three rows of n cells lie before dst
pub record ClearOf (t : Window) (dst n : ℕ) : Type 0 where
  pub up : t.up + n ≤ dst
  pub at : t.at + n ≤ dst
  pub down : t.down + n ≤ dst

-- all twelve do
pub record Clear (t : Stats) (dst n : ℕ) : Type 0 where
  pub y : ClearOf t.y dst n
  pub yy : ClearOf t.yy dst n
  pub c : ClearOf t.c dst n
  pub yc : ClearOf t.yc dst n

-- ---- two components

-- luma's rows are the same for both
pub record SameLuma (t u : Stats) : Type 0 where
  pub y : u.y ≡ t.y
  pub yy : u.yy ≡ t.yy

-- what is known of two components' rows of n cells and of the places a and b of their slopes: all are within `len` values, in this order
pub record PairLent (t u : Stats) (a b n len : ℕ) : Type 0 where
  pub alike : SameLuma t u
  pub first : AllInside t n len
  pub second : AllInside u n len
  pub first_clear : Clear t a n
  pub second_clear : Clear u a n
  pub apart : a + n ≤ b
  pub fits : b + n ≤ len

-- both components' slopes at n cells, put at a and at b, and those at m cells from cell i on
unfoldable pub pair_run : Stats → Stats → Float → ℕ → ℕ → ℕ → List Float → List Float
pair_run t u eps a b n s = put (put s a n (slope_at s t n eps)) b n (slope_at s u n eps)

unfoldable pub pairs_from : Stats → Stats → Float → ℕ → ℕ → ℕ → ℕ → ℕ → List Float → List Float
pairs_from t u eps n a b i m s = put (put s (a + i) m (λ k. slope_at s t n eps (i + k))) (b + i) m (λ k. slope_at s u n eps (i + k))

unfoldable pub pairs_inside : Stats → Stats → Float → ℕ → ℕ → ℕ → ℕ → List Float → List Float
pairs_inside t u eps a b i m s = put (put s (a + i) m (λ k. slope_inside s t eps (i + k))) (b + i) m (λ k. slope_inside s u eps (i + k))

-- ---- a component's row

-- the sums round chroma row j that a component's slopes are made of
unfoldable pub stats_of : Layout → Chroma → ℕ → Stats
stats_of l k j = record {
  y = window_of l LumaSums j;
  yy = window_of l SquareSums j;
  c = window_of l (Cells k) j;
  yc = window_of l (ProductSums k) j;
}

-- a component's slopes of chroma row j, put into their buffer
unfoldable pub slope_row : Layout → Chroma → ℕ → List Float → List Float
slope_row l k j s = put s (result_at l (num_down (Slope k)) j) l.cw (slope_of l (read_across l s) k j)

-- Cb's slopes, then Cr's
unfoldable pub slope_rows : Layout → ℕ → List Float → List Float
slope_rows l j s = slope_row l Cr j (slope_row l Cb j s)
