use Rattle.std.proofs.Common.{◌∙◌}
use Rattle.kernel_blocks.specs.Inner.Stores.{block_pixel}
use Rattle.kernel_blocks.proofs.Puts.{pixels_none, pixels_more}
use Rattle.kernel_blocks.proofs.stores.put_block.Goals as goal

pub loop-i-init : goal.loop-i-init
loop-i-init c = pixels_none _ _ _ _

pub loop-i-preserved : goal.loop-i-preserved
loop-i-preserved c =
    let a = c.args in c.put_pixel.ensures ∙ rw c.loop-i.invariant (pixels_more a.dst.now a.at a.size (block_pixel a.rows) c.loop-i.i)
