use Rattle.std.proofs.Common.{refl}
use lib.Ieee.{of_bits}
use Rattle.kernel_blocks.specs.Inner.Studio.{fall_bits}
use Rattle.kernel_blocks.proofs.Shades.{fall_number, fall_most}
use Rattle.kernel_blocks.proofs.studio.fall_near.Goals as goal

pub float_to_bits-result : goal.float_to_bits-result
unfolding of_bits
float_to_bits-result c =
    let p = c.requires in fall_number p.0 p.1.1 p.2.1

pub returns : goal.returns
unfolding of_bits fall_bits
returns c =
    let p = c.requires in (refl, fall_most p.0 p.1.1 p.2.1)
