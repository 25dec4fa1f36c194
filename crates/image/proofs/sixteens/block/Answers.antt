use Rattle.std.proofs.Common.{arith}
use Rattle.laws.proofs.Lists.{run_none, front_more, front_at}
use Rattle.image.proofs.sixteens.block.Goals as goal

pub loop-k-init : goal.loop-k-init
loop-k-init g c = run_none _ _ _

pub loop-k-preserved : goal.loop-k-preserved
loop-k-preserved g c = front_more c.loop-k.invariant _ c.sample.ensures

pub returns : goal.returns
returns g c = λ k h. front_at c.loop-k.invariant k 0 (omega arith) (omega arith)
