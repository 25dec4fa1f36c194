use Rattle.std.proofs.Common.{◌∙◌, arith}
use Rattle.guided_pixels.proofs.ValueRows.{inputs_inside, value_line}
use Rattle.guided.proofs.Places.{finished_place}
use Rattle.guided_pixels.proofs.values.value_row.Goals as goal

pub line_row-requires : goal.line_row-requires
line_row-requires c =
    let a = c.args in
    let k = a.k in
    let e = c.finished_at-dst.ensures in
    (c.requires.0, inputs_inside a.layout k a.j _ _ c.inputs_of.ensures c.requires.0.cw_most (omega arith), omega (arith, e, finished_place a.layout k))

pub returns : goal.returns
returns c =
    let a = c.args in c.line_row.ensures ∙ value_line a.layout a.k a.j _ _ a.s.now c.inputs_of.ensures c.finished_at-dst.ensures
