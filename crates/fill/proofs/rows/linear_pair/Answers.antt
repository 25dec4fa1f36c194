use Rattle.std.proofs.Common.{ap, ◌∙◌, arith, length}
use Rattle.linear.specs.Linear.{linear_row}
use Rattle.linear.proofs.LinearRows.{length_row}
use Rattle.image.specs.Samples.{seen}
use Rattle.fill.proofs.rows.linear_pair.Goals as goal

pub linear_row-requires : goal.linear_row-requires
linear_row-requires c =
    let p = c.requires in
    record { ready = p.ready; y_lt_h = (p.row_lt_h, omega arith) }

pub linear_row-requires-2 : goal.linear_row-requires-2
linear_row-requires-2 c =
    let r = c.requires.ready_2 in
    let e = ap length c.linear_row.ensures ∙ length_row _ _ _ _ _ in
    record { ready = record { shaped = r.shaped; plane = r.plane; scratch = rw e r.scratch }; y_lt_h = (c.requires.row_lt_h, omega arith) }

pub returns : goal.returns
returns c =
    let a = c.args in
    c.linear_row-2.ensures ∙ ap (linear_row a.layout (seen a.planes.cr) a.layout.w a.row) c.linear_row.ensures
