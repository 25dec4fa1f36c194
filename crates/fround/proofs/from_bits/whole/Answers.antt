use lib.Ieee.{of_bits}
use Rattle.fround.proofs.WholeBits.{whole_bits, no_nan}
use Rattle.fround.proofs.from_bits.whole.Goals as goal

pub float_from_bits-result : goal.float_from_bits-result
float_from_bits-result c =
    no_nan c.args.n c.requires

pub returns : goal.returns
unfolding of_bits
returns c =
    whole_bits c.args.n c.requires
