use Rattle.std.proofs.Common.{refl}
use Rattle.laws.proofs.Lists.{run_none, run_more}
use Rattle.picture.proofs.turned.turn_sample.Goals as goal

pub loop-t-init : goal.loop-t-init
loop-t-init c = run_none _ _ _

pub loop-t-preserved : goal.loop-t-preserved
loop-t-preserved c = run_more c.loop-t.invariant _ refl
