use Rattle.std.proofs.Common.{arith}
use Rattle.guided_down.proofs.Statistics.{eights_more}
use Rattle.guided_down.proofs.slope_rows.slope_eights.Goals as goal

pub loop-b-preserved : goal.loop-b-preserved
loop-b-preserved c =
    let a = c.args in
    eights_more a.t a.eps a.dst a.from c.loop-b.b _ c.requires.2 _ _ c.loop-b.invariant _ c.slope_eight-v.result c.slope_eight-v.ensures c.put_block.ensures (omega arith)
