-- `spot_of` by hand: centred where 2 cells go to 3 outputs, whose cells and fractions are those of the original's `taps`; and co-sited, over which the
-- original has nothing.
use Rattle.std.proofs.Common.{◌≡◌, refl, ℕ}
use Rattle.laws.specs.declared.axes.Siting.TheVariants.{Centred, CoSited}
use Rattle.taps.specs.Taps.{Spot, spot_at, sited_at, spot_of}

abbrev spot : ℕ → ℕ → ℕ → ℕ → Spot
spot near far k d = record { near = near; far = far; k = k; d = d }

-- over five cells: output 0 lies at −1/6, 1 at 3/6, 2 at 7/6, 3 at 11/6, and 7 at 27/6, past the last cell
pub two_to_three : (spot_of Centred 2 3 5 0 ≡ spot 0 0 0 1) × (spot_of Centred 2 3 5 1 ≡ spot 0 1 3 6) × (spot_of Centred 2 3 5 2 ≡ spot 1 2 1 6) × (spot_of Centred 2 3 5 3 ≡ spot 1 2 5 6) × (spot_of Centred 2 3 5 7 ≡ spot 4 4 0 1)
unfolding spot_of sited_at spot_at
two_to_three = (refl, refl, refl, refl, refl)

-- over two cells at ratio 3: output 0 lies on its cell, 1 at 1/3, 2 at 2/3, and 3 on the last cell, which those behind it take too; at ratio 1 an output is its cell
pub co_sited_thirds : (spot_of CoSited 1 3 2 0 ≡ spot 0 1 0 3) × (spot_of CoSited 1 3 2 1 ≡ spot 0 1 1 3) × (spot_of CoSited 1 3 2 2 ≡ spot 0 1 2 3) × (spot_of CoSited 1 3 2 3 ≡ spot 1 1 0 1) × (spot_of CoSited 1 3 2 5 ≡ spot 1 1 0 1) × (spot_of CoSited 1 1 9 7 ≡ spot 7 7 0 1)
unfolding spot_of sited_at spot_at
co_sited_thirds = (refl, refl, refl, refl, refl, refl)
