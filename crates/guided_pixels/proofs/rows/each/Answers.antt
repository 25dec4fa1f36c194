use Rattle.std.proofs.Common.{arith}
use Rattle.guided_pixels.proofs.LineRows.{each_none, each_more, each_inside}
use Rattle.guided_pixels.proofs.rows.each.Goals as goal

pub loop-i-init : goal.loop-i-init
loop-i-init g c =
    each_none _ _ _ _

pub loop-i-preserved : goal.loop-i-preserved
loop-i-preserved g c =
    let a = c.args in
    let p = c.requires in
    each_more _ _ a.dst a.layout.w p.2 (g.met.L.Line.keeps a.line a.layout _ p.0 p.1) a.layout.rh c.loop-i.i _ _ _ c.loop-i.invariant c.cell.ensures (each_inside a.layout.rh a.layout.w c.loop-i.i a.n (omega arith) (omega arith))
