-- A row by its bits, whose answers come from the original's `Linear`: ratio 3 both ways, where neither 1/3 nor 2/3 is a float, and samples of two bytes.
-- Co-sited rows by hand from BT.601, for which the original has nothing: at ratio 2 even columns are the samples and odd ones lie halfway. Rows of 2 of 3 and 3 of 4
-- by hand from exact fractions.
use Rattle.std.proofs.Common.{◌≡◌, refl, List, [], ◌∷◌, ℕ, length, get_or}
use lib.Ieee.{binary32, add, sub, sum, neg, mul, div, round, size, span, climb, units, odd, of_int, of_bits, of_fields}
use lib.Count.{count_trailing_zeros}
use Rattle.laws.specs.Lists.{table}
use Rattle.fround.specs.Rounding.{round_clamped}
use Rattle.image.specs.declared.layout.Range.TheVariants.{Full}
use Rattle.image.specs.declared.layout.Layout.{Layout}
use Rattle.image.specs.Samples.{Plane, sample_of, sample_at}
use Rattle.laws.specs.Axes.{plain}
use Rattle.laws.specs.declared.axes.Siting.{Siting}
use Rattle.laws.specs.declared.axes.Siting.TheVariants.{Centred, CoSited}
use Rattle.taps.specs.Taps.{spot_at, sited_at, spot_of, tap_by}
use Rattle.linear.specs.Linear.{linear_down, linear_sample}

-- 7 by 5 pixels, 3 by 2 cells
abbrev layout_v : Layout
layout_v = record { w = 7; h = 5; rh = 3; rv = 3; cw = 3; ch = 2; across = plain; down = plain; sample_bytes = 2; maxval = 65535; range = Full }

-- 32,105, 54,193 and 539; below them 59,496, 52,242 and 19,688
abbrev plane_v : Plane
plane_v = record { bytes = 105 ∷ 125 ∷ 177 ∷ 211 ∷ 27 ∷ 2 ∷ 104 ∷ 232 ∷ 18 ∷ 204 ∷ 232 ∷ 76 ∷ []; stride = 6 }

-- row 2, a third of the way down: across before down would change the last digit of four columns, and (1 − f)·a + f·b that of all seven
pub vector_3 : table 7 (linear_sample layout_v (sample_at 2 plane_v) 2)
    ≡ of_bits binary32 1193349974 ∷ of_bits binary32 1193349974 ∷ of_bits binary32 1194400200 ∷ of_bits binary32 1195450426 ∷ of_bits binary32 1196500651 ∷ of_bits binary32 1192522354 ∷ of_bits binary32 1185905778 ∷ []
unfolding table linear_sample linear_down tap_by spot_of sited_at spot_at sample_at sample_of add sub mul div sum neg round size span climb units odd of_int count_trailing_zeros of_bits of_fields
vector_3 = refl

-- the row of w samples over one row of cells, num of them to r outputs across by the siting
abbrev row_of : Siting → ℕ → ℕ → List ℕ → ℕ → List ℕ
row_of siting num r cells w =
    table w (λ x. round_clamped 255 (linear_sample (record { w = w; h = 1; rh = r; rv = 1; cw = length cells; ch = 1; across = record { siting = siting; num = num }; down = plain; sample_bytes = 1; maxval = 255; range = Full }) (λ j i. get_or cells i 0) 0 x))

-- co-sited over the two cells 0 and 100
pub record CoSitedRows : Type 0 where
  pub halves : row_of CoSited 1 2 (0 ∷ 100 ∷ []) 4 ≡ 0 ∷ 50 ∷ 100 ∷ 100 ∷ []
  pub thirds : row_of CoSited 1 3 (0 ∷ 100 ∷ []) 6 ≡ 0 ∷ 33 ∷ 67 ∷ 100 ∷ 100 ∷ 100 ∷ []
  pub quarters : row_of CoSited 1 4 (0 ∷ 100 ∷ []) 8 ≡ 0 ∷ 25 ∷ 50 ∷ 75 ∷ 100 ∷ 100 ∷ 100 ∷ 100 ∷ []

pub co_sited_rows : CoSitedRows
unfolding table round_clamped linear_sample linear_down tap_by spot_of sited_at spot_at add sub mul div sum neg round size span climb units odd of_int count_trailing_zeros
co_sited_rows = record { halves = refl; thirds = refl; quarters = refl }

-- ratios that aren't whole: 2 of 3 over four cells, and 3 of 4 over six
abbrev four : List ℕ
four = 0 ∷ 100 ∷ 200 ∷ 60 ∷ []

abbrev six : List ℕ
six = 0 ∷ 100 ∷ 200 ∷ 60 ∷ 10 ∷ 250 ∷ []

pub record PairRows : Type 0 where
  pub two_of_three : row_of Centred 2 3 four 6 ≡ 0 ∷ 50 ∷ 117 ∷ 183 ∷ 130 ∷ 60 ∷ []
  pub two_of_three_co_sited : row_of CoSited 2 3 four 6 ≡ 0 ∷ 67 ∷ 133 ∷ 200 ∷ 107 ∷ 60 ∷ []
  pub three_of_four : row_of Centred 3 4 six 8 ≡ 0 ∷ 63 ∷ 138 ∷ 183 ∷ 78 ∷ 29 ∷ 100 ∷ 250 ∷ []
  pub three_of_four_co_sited : row_of CoSited 3 4 six 8 ≡ 0 ∷ 75 ∷ 150 ∷ 165 ∷ 60 ∷ 23 ∷ 130 ∷ 250 ∷ []

pub pair_rows_is : PairRows
unfolding table round_clamped linear_sample linear_down tap_by spot_of sited_at spot_at add sub mul div sum neg round size span climb units odd of_int count_trailing_zeros
pair_rows_is = record { two_of_three = refl; two_of_three_co_sited = refl; three_of_four = refl; three_of_four_co_sited = refl }
