-- A row of one cell is one run, and otherwise three runs (first cell, inner cells, the rest) are one by `runs_made`.
-- The one step that isn't linear is that all cells but the last end inside the picture: `cells_inside`.
use Rattle.std.proofs.Common.{◌-◌, ◌*◌, arith}
use Rattle.guided_pixels.proofs.Phases.{cells_inside}
use Rattle.guided_pixels.proofs.LineRows.{runs_made}
use Rattle.guided_pixels.proofs.rows.line_row.Goals as goal

pub run-requires-2 : goal.run-requires-2
run-requires-2 g c =
    let p = c.requires in
    let h = cells_inside c.args.layout p.0 (omega arith) in
    (p.0, p.1, p.2, omega arith)

pub returns : goal.returns
returns g c =
    let a = c.args in
    let l = a.layout in
    let p = c.requires in
    runs_made _ _ a.dst l.w p.2 (g.met.L.Line.keeps a.line l _ p.0 p.1) l.rh ((l.cw - 2) * l.rh) a.s.now _ _ _ (cells_inside l p.0 (omega arith)) c.run-2.ensures c.inner.ensures c.run-3.ensures
