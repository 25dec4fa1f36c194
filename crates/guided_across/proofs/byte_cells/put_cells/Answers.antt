use Rattle.guided_across.proofs.ByteBlocks.{block_is}
use Rattle.guided_across.proofs.byte_cells.put_cells.Goals as goal

pub returns : goal.returns
returns c =
    let a = c.args in block_is a.plane.bytes.now a.top a.plane.stride a.m _ a.i _ _ _ c.cell_block.ensures c.put_block.ensures
