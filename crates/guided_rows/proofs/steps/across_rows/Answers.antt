use Rattle.std.proofs.Common.{arith}
use Rattle.guided_rows.proofs.Catching.{across_none, across_more}
use Rattle.guided_rows.proofs.steps.across_rows.Goals as goal

pub loop-j-init : goal.loop-j-init
loop-j-init c =
    (omega arith, across_none _ _ _ _)

pub loop-j-preserved : goal.loop-j-preserved
loop-j-preserved c =
    (omega arith, across_more _ _ _ c.loop-j.j _ _ _ (omega arith) c.loop-j.invariant.1 c.horizontal.ensures)
