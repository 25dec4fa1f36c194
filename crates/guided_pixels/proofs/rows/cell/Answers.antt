-- A cell was lerped before any of its pixels was stored, and stores leave it: `lerped_keeps`.
use Rattle.std.proofs.Common.{◌*◌, arith}
use Rattle.guided_pixels.proofs.LineRows.{left, line_more}
use Rattle.guided_pixels.proofs.rows.cell.Goals as goal

pub in_cell-v-requires : goal.in_cell-v-requires
in_cell-v-requires g c =
    let a = c.args in
    let p = c.requires in
    let x = a.i * a.layout.rh in
    let o = g.met.L.Line.keeps a.line a.layout _ p.0 p.1 in
    let same = left _ _ a.dst a.layout.w p.2 o _ _ x c.loop-k.k _ c.loop-k.invariant (omega arith) in
    (p.0, rw c.loop-k.auto.s p.1, g.met.L.Line.lerped_keeps a.line a.layout _ _ _ a.i _ p.0 p.1 (omega arith) same c.lerp-lerped.ensures, omega arith, omega arith)

pub loop-k-preserved : goal.loop-k-preserved
loop-k-preserved g c =
    let a = c.args in
    let p = c.requires in
    line_more _ _ a.dst a.layout.w p.2 (g.met.L.Line.keeps a.line a.layout _ p.0 p.1) _ _ (a.i * a.layout.rh) c.loop-k.k _ c.loop-k.invariant c.in_cell-v.ensures (omega arith)
