-- As `chroma_byte`: the grid's bits in the offset and in the lowered luma cancel.
use Rattle.std.proofs.Common.{arith}
use Rattle.kernels.specs.Kernels.{exact255}
use Rattle.kernel_blocks.proofs.Lumas.{lowered_held, luma_held, byte_is}
use Rattle.kernel_blocks.proofs.exact.green_byte.Goals as goal

pub limit_sum-requires : goal.limit_sum-requires
limit_sum-requires c =
    let o = (c.green_by_doubt.ensures _ _ c.requires.1.1 c.requires.2.1).most in (luma_held c.requires.0, omega arith)

pub returns : goal.returns
unfolding exact255
returns c =
    record { is = λ l b r h u v. byte_is c.limit_sum.ensures (lowered_held h) (c.green_by_doubt.ensures b r u v) }
