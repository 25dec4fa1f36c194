use Rattle.std.proofs.Common.{refl}
use lib.Ieee.{of_bits, of_int}
use Rattle.guided_down.proofs.slopes.mean3.Goals as goal

pub returns : goal.returns
unfolding of_bits of_int
returns c =
    refl
