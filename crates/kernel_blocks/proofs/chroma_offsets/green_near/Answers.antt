use Rattle.std.proofs.Common.{refl}
use lib.Ieee.{of_bits}
use Rattle.kernel_blocks.specs.Inner.Floating.{green_bits}
use Rattle.kernel_blocks.proofs.Greens.{green_number, green_most}
use Rattle.kernel_blocks.proofs.chroma_offsets.green_near.Goals as goal

pub float_to_bits-result : goal.float_to_bits-result
unfolding of_bits
float_to_bits-result c =
    let p = c.requires in green_number p.0.1 p.1.1 p.2

pub returns : goal.returns
unfolding of_bits green_bits
returns c =
    let p = c.requires in (refl, green_most p.0.1 p.1.1 p.2)
