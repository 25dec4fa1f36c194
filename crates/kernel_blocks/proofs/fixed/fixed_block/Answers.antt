use Rattle.kernels.proofs.Colours.{colour_fixed}
use Rattle.kernel_blocks.proofs.fixed.fixed_block.Goals as goal

pub returns : goal.returns
returns c =
    λ k h. colour_fixed _ _ _ (c.fixed_red.ensures k h) (c.fixed_green.ensures k h) (c.fixed_blue.ensures k h)
