-- The loop's invariant: dst is `pixels` of the first i. `pixels_more` is a turn. The one step that isn't linear is that pixel i ends within
-- dst, (i + 1) * size being at most 16 * size.
use Rattle.std.proofs.Common.{◌≡◌}
use Rattle.kernel_blocks.specs.Stores.{pixels}
use Rattle.kernel_blocks.specs.Inner.Stores.{block_pixel}
use Rattle.kernel_blocks.proofs.stores.put_block.Given as goal

abbrev pub invariant-loop-i : goal.invariant-loop-i
invariant-loop-i l = l.dst ≡ pixels l.initial.dst l.at l.size (block_pixel l.rows) l.i
