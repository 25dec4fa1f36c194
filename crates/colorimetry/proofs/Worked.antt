-- Patches computed from the definitions: means to their bits, halves up, one pixel shared, none, and the order of the refusals.
use Rattle.std.proofs.Common.{◌≡◌, refl, true, false, [], ◌∷◌, ℕ, Ok, Err}
use lib.Ieee.{binary64, of_bits, of_fields, of_int, div, round, size, span, climb, units, odd}
use lib.Count.{count_trailing_zeros}
use Rattle.laws.specs.Refusals.{first}
use Rattle.laws.specs.Sums.{sum_to}
use Rattle.colorimetry.specs.Patches.{PatchCall, patch_call, channel_at, shared_of, count_of, channel_sum, mean_of, channel_mean, whole_mean, bad_sides, passes, passes_end, patch_tests, has_mean}
use Rattle.laws.specs.declared.refusal.Refusal.TheVariants.{BadSize, BadRectangle}

-- the first width columns of one row of three pixels, (0, 254, 0), (1, 255, 0) and (1, 255, 1), from column left on
strip : ℕ → ℕ → PatchCall
strip left width = patch_call (record { left = left; top = 0; width = width; height = 1 }) 3 1 (0 ∷ 254 ∷ 0 ∷ 1 ∷ 255 ∷ 0 ∷ 1 ∷ 255 ∷ 1 ∷ [])

-- of 0 and 1 the mean is 1/2 and halves go up, so that the whole-number mean is 1; of 254 and 255 it is 255
two : (channel_mean (strip 0 2) 0 ≡ of_bits binary64 0x3fe0_0000_0000_0000) × (whole_mean (strip 0 2) 0 ≡ 1) × (whole_mean (strip 0 2) 1 ≡ 255)
unfolding strip channel_sum channel_at shared_of sum_to mean_of div round size span climb units odd of_int count_trailing_zeros of_bits of_fields
two = (refl, refl, refl)

-- of 0, 0 and 1 it is 1/3, rounded once, and 0
three : (channel_mean (strip 0 3) 2 ≡ of_bits binary64 0x3fd5_5555_5555_5555) × (whole_mean (strip 0 3) 2 ≡ 0)
unfolding strip channel_sum channel_at shared_of sum_to mean_of div round size span climb units odd of_int count_trailing_zeros of_bits of_fields
three = (refl, refl)

-- past the picture's end columns don't count
last : (has_mean (strip 2 9) ≡ true) × (count_of (strip 2 9) ≡ 1) × (whole_mean (strip 2 9) 1 ≡ 255)
unfolding strip channel_sum channel_at shared_of sum_to has_mean first patch_tests bad_sides passes_end passes
last = (refl, refl, refl)

-- a rectangle beside the picture shares no pixel, and nor does one with no column
beside : (first (patch_tests (strip 3 9)) ≡ Ok tt) × (has_mean (strip 3 9) ≡ false) × (has_mean (strip 1 0) ≡ false)
unfolding strip shared_of has_mean first patch_tests bad_sides passes_end passes
beside = (refl, refl, refl)

-- an end of 65,535 is accepted, one more is 19, before 10 and after 2
ends : (first (patch_tests (strip 65000 535)) ≡ Ok tt) × (first (patch_tests (strip 65000 536)) ≡ Err BadRectangle)
unfolding strip first patch_tests bad_sides passes_end passes
ends = (refl, refl)

order : ℕ → PatchCall
order w = patch_call (record { left = 0; top = 65536; width = 1; height = 0 }) w 1 []

two_first : (first (patch_tests (order 0)) ≡ Err BadSize) × (first (patch_tests (order 8192)) ≡ Err BadRectangle) × (first (patch_tests (order 8193)) ≡ Err BadSize)
unfolding order first patch_tests bad_sides passes_end passes
two_first = (refl, refl, refl)
