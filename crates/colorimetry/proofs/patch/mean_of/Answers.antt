use Rattle.std.proofs.Common.{arith, rules}
use lib.Ieee.{binary64}
use Rattle.laws.proofs.Values.{in_format}
use Rattle.colorimetry.specs.Patches.{mean_of}
use Rattle.colorimetry.proofs.patch.mean_of.Goals as goal

pub int_to_float-result : goal.int_to_float-result
int_to_float-result c =
    in_format binary64 c.args.sum (omega arith)

pub int_to_float-result-2 : goal.int_to_float-result-2
int_to_float-result-2 c =
    in_format binary64 c.args.count (omega arith)

pub returns : goal.returns
unfolding mean_of
returns c =
    search rules
