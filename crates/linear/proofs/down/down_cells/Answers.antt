use Rattle.laws.proofs.Lists.{run_more}
use Rattle.linear.proofs.down.down_cells.Goals as goal

pub loop-i-preserved : goal.loop-i-preserved
loop-i-preserved g c =
    let near = c.sample-near.ensures in
    let far = c.sample-far.ensures in
    let value = c.lerp.ensures in
    run_more c.loop-i.invariant _ (cc)
