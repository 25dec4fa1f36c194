use Rattle.guided_pixels.proofs.LineRows.{block_is}
use Rattle.guided_pixels.proofs.twos.put_cells.Goals as goal

pub returns : goal.returns
returns g c =
    block_is _ _ _ _ _ _ c.put_block.ensures c.block-pixels.ensures
