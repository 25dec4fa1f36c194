use Rattle.std.proofs.Common.{refl, ◌∙◌, arith}
use lib.Ieee.{of_bits, of_int}
use Rattle.guided_down.proofs.Statistics.{row_ready, row_slopes, epsilon_is}
use Rattle.guided_down.proofs.slope_rows.slope_row.Goals as goal

pub slope_cells-requires : goal.slope_cells-requires
slope_cells-requires c =
    let a = c.args in
    row_ready a.layout a.k a.j _ _ c.stats_at-t.ensures c.row_at-dst.ensures _ (omega arith) c.requires.0.cw_most

pub returns : goal.returns
unfolding of_bits of_int
returns c =
    let a = c.args in
    c.slope_cells.ensures ∙ row_slopes a.layout a.k a.j _ _ c.stats_at-t.ensures c.row_at-dst.ensures _ a.s.now (c.epsilon_of.ensures ∙ epsilon_is a.layout _ refl)
