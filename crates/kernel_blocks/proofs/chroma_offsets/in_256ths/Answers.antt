use Rattle.std.proofs.Common.{arith}
use lib.Ieee.{of_bits}
use Rattle.kernel_blocks.proofs.Chromas.{back_number, back_bits}
use Rattle.kernel_blocks.proofs.chroma_offsets.in_256ths.Goals as goal

pub float_to_bits-result : goal.float_to_bits-result
unfolding of_bits
float_to_bits-result c =
    back_number c.requires.1

pub overflow_sub-result : goal.overflow_sub-result
unfolding of_bits
overflow_sub-result c =
    omega (arith, back_bits c.requires.1)

pub returns : goal.returns
unfolding of_bits
returns c =
    let h = c.requires.1 in (let l = h.most in omega (arith, back_bits h), λ n k. omega (arith, back_bits k))
