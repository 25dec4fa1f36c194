use Rattle.std.proofs.Common.{sym}
use Rattle.laws.proofs.Lists.{run_more}
use Rattle.upsample.specs.Inner.Pairs.{down_row}
use Rattle.upsample.proofs.down.down_cells.Goals as goal

pub loop-x-preserved : goal.loop-x-preserved
unfolding down_row
loop-x-preserved g c =
    run_more c.loop-x.invariant _ (rw (sym c.near_cell.ensures, sym c.far_cell.ensures, sym c.from.ensures) c.one_axis.ensures)
