use lib.Ieee.{of_bits, div, of_int}
use Rattle.std.proofs.Common.{refl}
use Rattle.taps.proofs.positions.on_cell.Goals as goal

pub returns : goal.returns
unfolding of_bits div of_int
returns c =
    refl
