use Rattle.std.proofs.Common.{refl, ◌∙◌}
use lib.Ieee.{of_bits, of_int}
use Rattle.guided_down.proofs.Statistics.{pair_ready, pair_slopes, epsilon_is}
use Rattle.guided_down.proofs.slope_pairs.slope_rows.Goals as goal

pub pair_cells-requires : goal.pair_cells-requires
pair_cells-requires c =
    let a = c.args in
    pair_ready a.layout a.j _ _ _ _ c.stats_at-t.ensures c.stats_at-u.ensures c.row_at-a.ensures c.row_at-b.ensures _ c.requires.2 c.requires.0.cw_most

pub returns : goal.returns
unfolding of_bits of_int
returns c =
    let a = c.args in
    c.pair_cells.ensures
    ∙ pair_slopes a.layout a.j _ _ _ _ c.stats_at-t.ensures c.stats_at-u.ensures c.row_at-a.ensures c.row_at-b.ensures _ a.s.now (c.epsilon_of.ensures ∙ epsilon_is a.layout _ refl)
