use Rattle.netpbm.proofs.Written.{putting_none, putting_more, putting_end, put_is}
use Rattle.std.proofs.Common.{arith}
use Rattle.netpbm.proofs.lines.Line.put.Goals as goal

pub loop-b-init : goal.loop-b-init
loop-b-init c = putting_none _ _

pub loop-b-preserved : goal.loop-b-preserved
loop-b-preserved c = putting_more c.loop-b.invariant _ (omega arith) c.push-line.ensures

pub returns : goal.returns
returns c = put_is _ _ _ (putting_end c.loop-b.invariant (omega arith))
