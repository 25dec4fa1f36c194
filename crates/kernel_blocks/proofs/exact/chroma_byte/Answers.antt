-- By `byte_is` the grid's bits in the offset and in the lowered luma cancel.
use Rattle.std.proofs.Common.{arith}
use Rattle.kernels.specs.Inner.Forms.{plus_chroma}
use Rattle.kernel_blocks.proofs.Lumas.{lowered_held, luma_held, byte_is}
use Rattle.kernel_blocks.proofs.exact.chroma_byte.Goals as goal

pub limit_sum-requires : goal.limit_sum-requires
limit_sum-requires c =
    let o = (c.chroma_offset.ensures _ _ c.requires.0.1 c.requires.2.1).most in (luma_held c.requires.1, omega arith)

pub returns : goal.returns
unfolding plus_chroma
returns c =
    record { is = λ m l n t h g. byte_is c.limit_sum.ensures (lowered_held h) (c.chroma_offset.ensures m n t g) }
