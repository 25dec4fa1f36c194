use Rattle.std.proofs.Common.{◌+◌, ◌-◌, ◌*◌, arith}
use Rattle.guided_pixels.proofs.LineRows.{twos_more}
use Rattle.guided_pixels.proofs.twos.twos.Goals as goal

pub loop-b-preserved : goal.loop-b-preserved
loop-b-preserved g c =
    let a = c.args in
    let p = c.requires in
    let i = c.loop-b.b * 8 in
    twos_more _ _ a.dst a.layout.w p.2 (g.met.L.Line.keeps a.line a.layout _ p.0 p.1) i i ((c.loop-b.b + 1) * 8) _ _ _ c.loop-b.invariant c.put_cells.ensures (omega arith) (omega arith) (omega arith) (omega arith) (omega arith) (g.met.L.Line.within a.line a.layout _ p.1)

pub returns : goal.returns
returns g c =
    let a = c.args in
    let p = c.requires in
    twos_more _ _ a.dst a.layout.w p.2 (g.met.L.Line.keeps a.line a.layout _ p.0 p.1) (c.loop-b.b * 8) (a.n - 8) a.n _ _ _ c.loop-b.invariant c.put_cells-2.ensures (omega arith) (omega arith) (omega arith) (omega arith) (omega arith) (g.met.L.Line.within a.line a.layout _ p.1)
