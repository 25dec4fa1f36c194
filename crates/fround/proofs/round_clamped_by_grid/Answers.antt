-- c is x limited (`limited_by`), and the grid rounds c (`on_sum`).
use Rattle.std.proofs.Common.{sym, ◌∙◌, add-zero, arith}
use lib.Ieee.{of_bits}
use Rattle.fround.proofs.Laws.{rounded}
use Rattle.fround.proofs.Limits.{limited_by}
use Rattle.fround.proofs.OnGrid.{on_sum, sum_no_nan}
use Rattle.fround.proofs.round_clamped_by_grid.Goals as goal

pub float_to_bits-n : goal.float_to_bits-n
unfolding of_bits
float_to_bits-n c =
    let lim = limited_by _ _ _ _ _ c.well_formed.0.1 (omega arith) c.min.ensures c.clamp-c.ensures in
    rw c.on_grid-t.ensures (sum_no_nan _ _ _ (omega arith) lim)

pub returns-then-c-t : goal.returns-then-c-t
unfolding of_bits
returns-then-c-t c =
    let lim = limited_by _ _ _ _ _ c.well_formed.0.1 (omega arith) c.min.ensures c.clamp-c.ensures in
    let sum = on_sum _ _ _ _ (omega arith) c.on_grid-t.ensures lim in
    rounded (rw c.if-c-t.true at sum)

pub returns-else-c-t : goal.returns-else-c-t
unfolding of_bits
returns-else-c-t c =
    let lim = limited_by _ _ _ _ _ c.well_formed.0.1 (omega arith) c.min.ensures c.clamp-c.ensures in
    let sum = on_sum _ _ _ _ (omega arith) c.on_grid-t.ensures lim in
    rounded (sym (add-zero _) ∙ (rw c.if-c-t.false at sum))
