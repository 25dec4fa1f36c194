use Rattle.std.proofs.Common.{arith}
use Rattle.guided_pixels.proofs.LineRows.{line_more}
use Rattle.guided_pixels.proofs.rows.ones.Goals as goal

pub loop-i-preserved : goal.loop-i-preserved
loop-i-preserved g c =
    let a = c.args in
    let p = c.requires in
    line_more _ _ a.dst a.layout.w p.2 (g.met.L.Line.keeps a.line a.layout _ p.0 p.1) _ _ 1 c.loop-i.i _ c.loop-i.invariant c.one-v.ensures (omega arith)
