-- The starred cases hold, each by computing its definition.
use Rattle.std.proofs.Common.{refl}
use lib.Ieee.{add, sub, sum, neg, mul, div, round, size, span, climb, units, odd, lt, of_int, of_bits, of_fields}
use lib.Count.{count_trailing_zeros}
use Rattle.laws.specs.Lists.{table}
use Rattle.laws.specs.Differences.{floor_div, limit, within}
use Rattle.fround.specs.Rounding.{round_clamped}
use Rattle.upsample.specs.Weights.{one_axis, weighed, far}
use Rattle.upsample.specs.Triangular.{triangular_sample}
use Rattle.taps.specs.Taps.{spot_at, sited_at, spot_of, tap_by, phase_of, phases_of, phase_at}
use Rattle.linear.specs.Linear.{linear_sample, linear_down}
use Rattle.kernels.specs.HalvesUp.{rnd}
use Rattle.kernels.specs.Kernels.{centred, red_offset, green_offset, blue_offset, exact255, off_centre, exact_at, fixed_red, fixed_green_cb, fixed_green_cr, fixed_blue, fixed255}
use Rattle.kernels.specs.Pixels.{exact_colour}
use Rattle.starred_cases.specs.Starred.{starred, AllHold, none, also, Holds}

pub starred_hold : AllHold starred
unfolding starred Holds table round_clamped exact_colour exact255 exact_at fixed255 centred red_offset green_offset blue_offset off_centre fixed_red fixed_green_cb fixed_green_cr fixed_blue rnd floor_div limit within linear_sample linear_down tap_by spot_of sited_at spot_at triangular_sample one_axis weighed far phases_of phase_at phase_of add sub mul div sum neg round size span climb units odd lt of_int count_trailing_zeros of_bits of_fields
starred_hold = also _ _ refl (also _ _ refl (also _ _ refl (also _ _ refl (also _ _ refl (also _ _ refl (also _ _ refl (also _ _ refl (also _ _ refl (also _ _ refl (also _ _ refl (also _ _ refl (also _ _ refl none))))))))))))
