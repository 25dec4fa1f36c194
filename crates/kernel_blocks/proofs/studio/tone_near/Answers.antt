use Rattle.std.proofs.Common.{refl}
use lib.Ieee.{of_bits}
use Rattle.kernel_blocks.specs.Inner.Studio.{tone_bits}
use Rattle.kernel_blocks.proofs.Shades.{tone_number, tone_most}
use Rattle.kernel_blocks.proofs.studio.tone_near.Goals as goal

pub float_to_bits-result : goal.float_to_bits-result
unfolding of_bits
float_to_bits-result c =
    let p = c.requires in tone_number p.0.1 p.1 p.2.1

pub returns : goal.returns
unfolding of_bits tone_bits
returns c =
    let p = c.requires in (refl, tone_most p.0.1 p.1 p.2.1)
