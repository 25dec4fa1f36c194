-- The colours of row 1 of two pictures of one geometry, for the worked pair of lists of a blend: the first is guided's worked picture.
-- The rows of chroma are computed to their bits, slopes first, as there; the kernel then takes them to bytes.
use Rattle.std.proofs.Common.{◌≡◌, refl, sym, ap, ◌∙◌, List, [], ◌∷◌, ℕ, ◌<◌, lit<, get_or, replicate, Float, Ok}
use lib.Ieee.{nan, add, sub, sum, neg, mul, div, round, size, span, climb, units, odd, lt, of_int, of_bits, of_fields}
use lib.Count.{count_trailing_zeros}
use Rattle.laws.specs.Differences.{floor_div, limit, within}
use Rattle.laws.specs.Lists.{table}
use Rattle.laws.specs.Refusals.{first}
use Rattle.laws.specs.Sums.{sum_to}
use Rattle.laws.proofs.Lists.{table_at}
use Rattle.image.specs.declared.layout.Range.TheVariants.{Full}
use Rattle.image.specs.declared.chroma.Chroma.{Chroma}
use Rattle.image.specs.declared.chroma.Chroma.TheVariants.{Cb, Cr}
use Rattle.image.specs.Tests.{bad_size, bad_ratio, bad_samples, bad_range, div_ceil, bad_chroma, bad_siting, bad_plane, tests_for}
use Rattle.image.specs.Picture.{chroma_plane, inside, picture_of, short_plane, bad_planes, Planes}
use Rattle.image.specs.Samples.{sample_of, sample_at}
use Rattle.image.specs.Limits.{any_of, above, above_any}
use Rattle.image.specs.Scratch.{scratch_need}
use Rattle.fround.specs.Rounding.{round_clamped}
use Rattle.taps.specs.Taps.{spot_at, sited_at, spot_of, tap_by, phase_of}
use Rattle.guided.specs.Guided.{three, luma_of, extreme_of, cell_luma, cell_of, across_val, extreme, epsilon, mean, slope_of, down_to, across_to, detail_of, value_of, slope, guided_sample, guided_row}
use Rattle.guided.specs.Calls.{OpenCall, open_tests, Bytes}
use Rattle.guided.specs.Events.{picture_by}
use Rattle.guided.proofs.Worked.{junk, layout_a, open_a, bytes_are, bits, cb1, cr1, computed_1}
use Rattle.kernels.specs.Kernels.{Colour, exact255, centred, red_offset, green_offset, blue_offset}
use Rattle.kernels.specs.HalvesUp.{rnd}
use Rattle.kernels.specs.Pixels.{exact_colour}
use Rattle.kernels.specs.declared.kernel.YcbcrKernel.TheVariants.{Exact}
use Rattle.colour_rows.specs.Colours.{limit256, chroma256, colour_by, colour_in}
use Rattle.fill.specs.Fill.{chroma_by, fill_colour}
use Rattle.rgb_rows.specs.RgbRows.{guided_colour}
use Rattle.rgb_rows.proofs.FilledRows.{colours}

-- ---- the second picture: the first one's layout, other samples

abbrev pub planes_c : Planes
planes_c = record { y = record { bytes = 200 ∷ 150 ∷ 90 ∷ 60 ∷ []; stride = 2 }; cb = record { bytes = 90 ∷ 140 ∷ []; stride = 1 }; cr = record { bytes = 110 ∷ 180 ∷ []; stride = 1 } }

abbrev pub open_c : OpenCall
open_c = record { layout = layout_a; planes = planes_c; scratch = replicate 80 nan; reader = junk }

pub open_c_answer : first (open_tests open_c) ≡ Ok tt
unfolding open_tests first tests_for bad_size bad_ratio bad_samples bad_range div_ceil bad_chroma bad_siting bad_plane short_plane bad_planes sample_of sample_at any_of above above_any scratch_need
open_c_answer = refl

pub bytes_c : Bytes open_c
unfolding Bytes
bytes_c Cb = bytes_are (chroma_plane planes_c Cb).bytes tt
bytes_c Cr = bytes_are (chroma_plane planes_c Cr).bytes tt

-- ---- its row 1: Cb 132.5536 and 140, Cr 169.57506 and 180

abbrev cb1_c : List Float
cb1_c = bits 1124371897 ∷ bits 1124859904 ∷ []

abbrev cr1_c : List Float
cr1_c = bits 1126798135 ∷ bits 1127481344 ∷ []

slopes_c : (slope (picture_by open_c) Cb 1 0 ≡ bits 3204328331) × (slope (picture_by open_c) Cr 1 0 ≡ bits 3207719750)
unfolding slope slope_of mean epsilon across_val cell_of cell_luma luma_of three sum_to picture_of inside sample_at sample_of add sub mul div sum neg round size span climb units odd lt of_int count_trailing_zeros of_bits of_fields
slopes_c = (refl, refl)

computed_c : (guided_row (picture_by open_c) Cb 1 ≡ cb1_c) × (guided_row (picture_by open_c) Cr 1 ≡ cr1_c)
unfolding guided_row table guided_sample value_of detail_of across_to down_to extreme extreme_of across_val cell_of cell_luma luma_of three sum_to phase_of tap_by spot_of sited_at spot_at picture_of inside sample_at sample_of add sub mul div sum neg round size span climb units odd lt of_int count_trailing_zeros of_bits of_fields
computed_c = (rw slopes_c.0 refl, rw slopes_c.1 refl)

-- ---- colours of row 1

-- a sample, from its row
sample_is : (o : OpenCall) (k : Chroma) (l : List Float) (x : ℕ) → guided_row (picture_by o) k 1 ≡ l → x < o.layout.w → guided_sample (picture_by o) k 1 x ≡ get_or l x nan
unfolding guided_row picture_of
sample_is o k l x e X = sym (table_at o.layout.w (guided_sample (picture_by o) k 1) x nan X) ∙ ap (λ (z : List Float). get_or z x nan) e

luma_is : ((picture_by open_a).luma 1 0 ≡ 30) × ((picture_by open_a).luma 1 1 ≡ 40) × ((picture_by open_c).luma 1 0 ≡ 90) × ((picture_by open_c).luma 1 1 ≡ 60)
unfolding picture_of inside sample_at sample_of
luma_is = (refl, refl, refl, refl)

colour_by_is : (o : OpenCall) (x y : ℕ) (b r : Float) → (picture_by o).layout.range ≡ Full → (picture_by o).layout.maxval ≡ 255 → (picture_by o).luma 1 x ≡ y → guided_sample (picture_by o) Cb 1 x ≡ b → guided_sample (picture_by o) Cr 1 x ≡ r → guided_colour o 1 x ≡ colour_in Full Exact 255 y b r
unfolding guided_colour fill_colour chroma_by
colour_by_is o x y b r z m l eb er = colours z m l eb er

abbrev rgb : ℕ → ℕ → ℕ → Colour
rgb r g b = record { red = r; green = g; blue = b }

-- the kernel's bytes of the four pixels
kernel_gives : (colour_in Full Exact 255 30 (bits 1116271356) (bits 1120804449) ≡ rgb 0 68 0) × (colour_in Full Exact 255 40 (bits 1114636288) (bits 1117388800) ≡ rgb 0 100 0)
    × (colour_in Full Exact 255 90 (bits 1124371897) (bits 1126798135) ≡ rgb 148 59 98) × (colour_in Full Exact 255 60 (bits 1124859904) (bits 1127481344) ≡ rgb 133 19 81)
unfolding colour_in colour_by chroma256 limit256 round_clamped exact_colour exact255 centred red_offset green_offset blue_offset rnd floor_div limit within mul round size span climb units odd lt of_int count_trailing_zeros of_bits of_fields
kernel_gives = (refl, refl, refl, refl)

range_is : ((picture_by open_a).layout.range ≡ Full) × ((picture_by open_c).layout.range ≡ Full)
unfolding picture_of
range_is = (refl, refl)

maxval_is : ((picture_by open_a).layout.maxval ≡ 255) × ((picture_by open_c).layout.maxval ≡ 255)
unfolding picture_of
maxval_is = (refl, refl)

-- row 1 of the first picture and of the second, as the guided exact fill gives it
pub early_row : (guided_colour open_a 1 0 ≡ record { red = 0; green = 68; blue = 0 }) × (guided_colour open_a 1 1 ≡ record { red = 0; green = 100; blue = 0 })
early_row = (
  colour_by_is open_a 0 30 _ _ range_is.0 maxval_is.0 luma_is.0 (sample_is open_a Cb cb1 0 computed_1.0 (lit< tt)) (sample_is open_a Cr cr1 0 computed_1.1 (lit< tt)) ∙ kernel_gives.0,
  colour_by_is open_a 1 40 _ _ range_is.0 maxval_is.0 luma_is.1 (sample_is open_a Cb cb1 1 computed_1.0 (lit< tt)) (sample_is open_a Cr cr1 1 computed_1.1 (lit< tt)) ∙ kernel_gives.1,
)

pub late_row : (guided_colour open_c 1 0 ≡ record { red = 148; green = 59; blue = 98 }) × (guided_colour open_c 1 1 ≡ record { red = 133; green = 19; blue = 81 })
late_row = (
  colour_by_is open_c 0 90 _ _ range_is.1 maxval_is.1 luma_is.2 (sample_is open_c Cb cb1_c 0 computed_c.0 (lit< tt)) (sample_is open_c Cr cr1_c 0 computed_c.1 (lit< tt)) ∙ kernel_gives.2,
  colour_by_is open_c 1 60 _ _ range_is.1 maxval_is.1 luma_is.3 (sample_is open_c Cb cb1_c 1 computed_c.0 (lit< tt)) (sample_is open_c Cr cr1_c 1 computed_c.1 (lit< tt)) ∙ kernel_gives.3,
)
