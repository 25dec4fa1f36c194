use Rattle.laws.proofs.Lists.{run_more}
use Rattle.linear.proofs.across.put_between.Goals as goal

pub loop-k-preserved : goal.loop-k-preserved
loop-k-preserved c =
    run_more c.loop-k.invariant _ c.lerp.ensures
