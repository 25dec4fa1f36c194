use Rattle.guided_across.proofs.ReadBack.{luma_steps}
use Rattle.guided_across.specs.Inner.Sums.{cells_at, products_at, three_row}
use Rattle.std.proofs.Common.{ap, ◌∙◌}
use Rattle.image.specs.Samples.{seen}
use Rattle.guided_across.proofs.across.luma_part.Goals as goal

pub returns : goal.returns
returns c =
    let a = c.args in
    let l = a.layout in
    let y = c.row_at-luma in
    let sums = c.row_at-sums in
    let squares = c.row_at-squares in
    c.sum_row-2.ensures
    ∙ ap (three_row (products_at y.result y.result) l.cw squares.result) (c.sum_row.ensures ∙ ap (three_row (cells_at y.result) l.cw sums.result) c.luma_row.ensures)
    ∙ luma_steps l (seen a.plane) a.j _ _ _ a.s.now y.ensures.is sums.ensures.is squares.ensures.is c.requires.luma_pixels.sound.cw_most c.requires.j_lt_ch.1
