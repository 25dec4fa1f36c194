use Rattle.std.proofs.Common.{refl}
use Rattle.guided_across.proofs.ByteBlocks.{sums_none, sums_more}
use Rattle.guided_across.proofs.byte_cells.cell_sums.Goals as goal

pub loop-dy-init : goal.loop-dy-init
loop-dy-init c =
    let a = c.args in sums_none a.plane.bytes.now a.at a.plane.stride

pub loop-dy-preserved : goal.loop-dy-preserved
loop-dy-preserved c =
    let a = c.args in sums_more a.plane.bytes.now a.at a.plane.stride c.loop-dy.dy _ _ _ _ refl c.loop-dy.invariant c.pair_sums.ensures c.add_row.ensures
