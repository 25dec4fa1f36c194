use Rattle.laws.proofs.Values.{in_float_is}
use Rattle.std.proofs.Common.{refl, arith}
use lib.Ieee.{of_bits, of_int}
use Rattle.guided_down.proofs.slopes.epsilon_of.Goals as goal

pub int_to_float-s : goal.int_to_float-s
int_to_float-s c =
    in_float_is c.args.layout.maxval (omega arith)

pub returns : goal.returns
unfolding of_bits of_int
returns c =
    refl
