-- Rows by their bits, whose answers come from the original: pictures of two bytes with edge cells of fewer pixels, by which the arithmetic is told from its neighbours.
use Rattle.std.proofs.Common.{◌≡◌, refl, List, [], ◌∷◌, ℕ, ◌*◌}
use lib.Ieee.{binary32, add, sub, sum, neg, mul, div, round, size, span, climb, units, odd, lt, of_int, of_bits, of_fields}
use lib.Count.{count_trailing_zeros}
use Rattle.laws.specs.Axes.{plain}
use Rattle.laws.specs.Lists.{table}
use Rattle.laws.specs.Sums.{sum_to}
use Rattle.image.specs.declared.layout.Range.TheVariants.{Full}
use Rattle.image.specs.Samples.{sample_of, sample_at}
use Rattle.image.specs.declared.chroma.Chroma.TheVariants.{Cb}
use Rattle.image.specs.Picture.{Picture, inside, picture_of}
use Rattle.taps.specs.Taps.{spot_at, sited_at, spot_of, tap_by, phase_of}
use Rattle.guided.specs.Guided.{three, luma_of, extreme_of, cell_luma, cell_of, across_val, extreme, epsilon, mean, slope_of, down_to, across_to, detail_of, value_of, slope, guided_sample, guided_row}

-- a picture of so many bytes a sample at ratios rh and rv, of cw by ch cells whose chroma is c twice
abbrev picture_v : ℕ → ℕ → ℕ → ℕ → ℕ → ℕ → ℕ → ℕ → List ℕ → List ℕ → Picture
picture_v bytes w h rh rv cw ch maxval y c =
    picture_of (record { w = w; h = h; rh = rh; rv = rv; cw = cw; ch = ch; across = plain; down = plain; sample_bytes = bytes; maxval = maxval; range = Full })
    (record { y = record { bytes = y; stride = bytes * w }; cb = record { bytes = c; stride = bytes * cw }; cr = record { bytes = c; stride = bytes * cw } })

-- 3 by 3 at ratio 2, maxval 1,023, row 1
pub vector_2 : guided_row (picture_v 2 3 3 2 2 2 2 1023 (11 ∷ 2 ∷ 222 ∷ 2 ∷ 59 ∷ 0 ∷ 185 ∷ 3 ∷ 254 ∷ 1 ∷ 106 ∷ 0 ∷ 65 ∷ 1 ∷ 231 ∷ 0 ∷ 249 ∷ 2 ∷ []) (192 ∷ 3 ∷ 248 ∷ 1 ∷ 11 ∷ 3 ∷ 208 ∷ 0 ∷ [])) Cb 1
    ≡ of_bits binary32 1148190720 ∷ of_bits binary32 1145482888 ∷ of_bits binary32 1141634663 ∷ []
unfolding guided_row table guided_sample value_of detail_of across_to down_to slope slope_of mean epsilon extreme extreme_of across_val cell_of cell_luma luma_of three sum_to phase_of tap_by spot_of sited_at spot_at picture_of inside sample_at sample_of add sub mul div sum neg round size span climb units odd lt of_int count_trailing_zeros of_bits of_fields
vector_2 = refl

-- 5 by 4 at ratio 3, maxval 1,000, row 2
pub vector_3 : guided_row (picture_v 2 5 4 3 3 2 2 1000 (137 ∷ 0 ∷ 70 ∷ 2 ∷ 99 ∷ 3 ∷ 53 ∷ 3 ∷ 14 ∷ 3 ∷ 64 ∷ 0 ∷ 5 ∷ 1 ∷ 120 ∷ 0 ∷ 251 ∷ 1 ∷ 11 ∷ 3 ∷ 204 ∷ 1 ∷ 227 ∷ 1 ∷ 155 ∷ 2 ∷ 132 ∷ 1 ∷ 39 ∷ 3 ∷ 214 ∷ 0 ∷ 96 ∷ 0 ∷ 243 ∷ 1 ∷ 29 ∷ 0 ∷ 146 ∷ 3 ∷ []) (87 ∷ 3 ∷ 143 ∷ 1 ∷ 187 ∷ 1 ∷ 110 ∷ 2 ∷ [])) Cb 2
    ≡ of_bits binary32 1143836969 ∷ of_bits binary32 1143749153 ∷ of_bits binary32 1141618710 ∷ of_bits binary32 1142597432 ∷ of_bits binary32 1137147904 ∷ []
unfolding guided_row table guided_sample value_of detail_of across_to down_to slope slope_of mean epsilon extreme extreme_of across_val cell_of cell_luma luma_of three sum_to phase_of tap_by spot_of sited_at spot_at picture_of inside sample_at sample_of add sub mul div sum neg round size span climb units odd lt of_int count_trailing_zeros of_bits of_fields
vector_3 = refl

-- 6 by 5 at ratio 4, maxval 4,000, row 3
pub vector_4 : guided_row (picture_v 2 6 5 4 4 2 2 4000 (198 ∷ 3 ∷ 218 ∷ 4 ∷ 166 ∷ 1 ∷ 138 ∷ 11 ∷ 86 ∷ 6 ∷ 169 ∷ 7 ∷ 122 ∷ 2 ∷ 113 ∷ 1 ∷ 16 ∷ 1 ∷ 81 ∷ 0 ∷ 108 ∷ 6 ∷ 202 ∷ 8 ∷ 175 ∷ 14 ∷ 161 ∷ 4 ∷ 206 ∷ 12 ∷ 62 ∷ 12 ∷ 241 ∷ 0 ∷ 141 ∷ 3 ∷ 83 ∷ 8 ∷ 150 ∷ 8 ∷ 195 ∷ 5 ∷ 109 ∷ 4 ∷ 121 ∷ 12 ∷ 195 ∷ 2 ∷ 58 ∷ 13 ∷ 178 ∷ 1 ∷ 48 ∷ 4 ∷ 110 ∷ 3 ∷ 22 ∷ 15 ∷ 214 ∷ 14 ∷ []) (105 ∷ 0 ∷ 67 ∷ 13 ∷ 64 ∷ 10 ∷ 232 ∷ 12 ∷ [])) Cb 3
    ≡ of_bits binary32 1152508763 ∷ of_bits binary32 1152847926 ∷ of_bits binary32 1151029912 ∷ of_bits binary32 1153370477 ∷ of_bits binary32 1161630943 ∷ of_bits binary32 1159061722 ∷ []
unfolding guided_row table guided_sample value_of detail_of across_to down_to slope slope_of mean epsilon extreme extreme_of across_val cell_of cell_luma luma_of three sum_to phase_of tap_by spot_of sited_at spot_at picture_of inside sample_at sample_of add sub mul div sum neg round size span climb units odd lt of_int count_trailing_zeros of_bits of_fields
vector_4 = refl

-- ---- the variance, "max(mean yy − my·my, 0)": equal cell means over differing pixels, where roundings make the difference negative

-- 6 by 3 bytes at ratio 3, maxval 2, luma a checkerboard of 203 and 204, row 0: without the max column 0 would be 239
pub variance_bytes : guided_row (picture_v 1 6 3 3 3 2 1 2 (203 ∷ 204 ∷ 203 ∷ 204 ∷ 203 ∷ 204 ∷ 204 ∷ 203 ∷ 204 ∷ 203 ∷ 204 ∷ 203 ∷ 203 ∷ 204 ∷ 203 ∷ 204 ∷ 203 ∷ 204 ∷ []) (25 ∷ 239 ∷ [])) Cb 0
    ≡ of_bits binary32 1103626240 ∷ of_bits binary32 1131347968 ∷ of_bits binary32 1103626240 ∷ of_bits binary32 1131347968 ∷ of_bits binary32 1103626240 ∷ of_bits binary32 1131347968 ∷ []
unfolding guided_row table guided_sample value_of detail_of across_to down_to slope slope_of mean epsilon extreme extreme_of across_val cell_of cell_luma luma_of three sum_to phase_of tap_by spot_of sited_at spot_at picture_of inside sample_at sample_of add sub mul div sum neg round size span climb units odd lt of_int count_trailing_zeros of_bits of_fields
variance_bytes = refl

-- 4 by 4 at ratio 2, maxval 1,023, luma a checkerboard of 640 and 755, row 1: column 0 is one step of its last digit higher than without the max
pub variance_words : guided_row (picture_v 2 4 4 2 2 2 2 1023 (128 ∷ 2 ∷ 243 ∷ 2 ∷ 128 ∷ 2 ∷ 243 ∷ 2 ∷ 243 ∷ 2 ∷ 128 ∷ 2 ∷ 243 ∷ 2 ∷ 128 ∷ 2 ∷ 128 ∷ 2 ∷ 243 ∷ 2 ∷ 128 ∷ 2 ∷ 243 ∷ 2 ∷ 243 ∷ 2 ∷ 128 ∷ 2 ∷ 243 ∷ 2 ∷ 128 ∷ 2 ∷ []) (47 ∷ 1 ∷ 21 ∷ 3 ∷ 38 ∷ 3 ∷ 247 ∷ 3 ∷ [])) Cb 1
    ≡ of_bits binary32 1138122581 ∷ of_bits binary32 1141193814 ∷ of_bits binary32 1144607658 ∷ of_bits binary32 1146314838 ∷ []
unfolding guided_row table guided_sample value_of detail_of across_to down_to slope slope_of mean epsilon extreme extreme_of across_val cell_of cell_luma luma_of three sum_to phase_of tap_by spot_of sited_at spot_at picture_of inside sample_at sample_of add sub mul div sum neg round size span climb units odd lt of_int count_trailing_zeros of_bits of_fields
variance_words = refl

-- 2 by 1 at ratio 1, maxval 255, luma 63,735 twice, row 0: max(mean yy − my·my + eps, 0) would give 28,099 twice
pub variance_before_epsilon : guided_row (picture_v 2 2 1 1 1 2 1 255 (247 ∷ 248 ∷ 247 ∷ 248 ∷ []) (195 ∷ 109 ∷ 222 ∷ 169 ∷ [])) Cb 0
    ≡ of_bits binary32 1188791808 ∷ of_bits binary32 1193926144 ∷ []
unfolding guided_row table guided_sample value_of detail_of across_to down_to slope slope_of mean epsilon extreme extreme_of across_val cell_of cell_luma luma_of three sum_to phase_of tap_by spot_of sited_at spot_at picture_of inside sample_at sample_of add sub mul div sum neg round size span climb units odd lt of_int count_trailing_zeros of_bits of_fields
variance_before_epsilon = refl

-- 2 by 2 at ratio 2 across and 1 down, maxval 4,095, luma a checkerboard of 1,762 and 4,002, row 1: with the absolute value column 0 is one step of its last digit lower
pub variance_not_its_size : guided_row (picture_v 2 2 2 2 1 1 2 4095 (226 ∷ 6 ∷ 162 ∷ 15 ∷ 162 ∷ 15 ∷ 226 ∷ 6 ∷ []) (239 ∷ 13 ∷ 226 ∷ 3 ∷ [])) Cb 1
    ≡ of_bits binary32 1148750000 ∷ of_bits binary32 1148747776 ∷ []
unfolding guided_row table guided_sample value_of detail_of across_to down_to slope slope_of mean epsilon extreme extreme_of across_val cell_of cell_luma luma_of three sum_to phase_of tap_by spot_of sited_at spot_at picture_of inside sample_at sample_of add sub mul div sum neg round size span climb units odd lt of_int count_trailing_zeros of_bits of_fields
variance_not_its_size = refl
