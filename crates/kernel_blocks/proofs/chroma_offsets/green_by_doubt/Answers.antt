use Rattle.std.proofs.Common.{sym, subst}
use lib.Ieee.{of_bits}
use Rattle.kernels.specs.Kernels.{centred, green_offset}
use Rattle.kernel_blocks.specs.Inner.Floating.{OnGrid, added}
use Rattle.kernel_blocks.proofs.Greens.{green_sure}
use Rattle.kernel_blocks.proofs.chroma_offsets.green_by_doubt.Goals as goal

pub green_near-requires : goal.green_near-requires
unfolding of_bits
green_near-requires c =
    let p = c.requires in (p.0, p.1, added)

pub returns-then-doubt-eq0 : goal.returns-then-doubt-eq0
unfolding of_bits
returns-then-doubt-eq0 c =
    λ b r u v.
    subst (OnGrid (green_offset (centred b) (centred r))) (sym c.green_near.ensures.0) (green_sure u v (c.requires.2 c.if-doubt-eq0.true))
