use Rattle.std.proofs.Common.{refl, arith}
use Rattle.laws.proofs.Lists.{run_none, run_more, run_end}
use Rattle.reader.proofs.copies.copy_row.Goals as goal

pub loop-i-init : goal.loop-i-init
loop-i-init c =
    run_none _ _ _

pub loop-i-preserved : goal.loop-i-preserved
loop-i-preserved c =
    run_more c.loop-i.invariant _ refl

pub returns : goal.returns
returns c =
    run_end c.loop-i.invariant _ (omega arith) (omega arith)
