use Rattle.std.proofs.Common.{refl, ◌+◌, ◌-◌, ◌*◌, arith}
use Rattle.upsample.specs.Inner.Pairs.{sums, across_row}
use Rattle.laws.proofs.Lists.{run_of, run_run}
use Rattle.upsample.proofs.across.row_of.Goals as goal

pub returns : goal.returns
returns g c =
    let a = c.args in
    let one = run_of _ _ _ _ (across_row a.bias a.cw (sums g.S.Sum.BYTES a.rows)) c.first_cell.ensures in
    let inner = run_run one _ (a.at + 2) (2 * (a.cw - 1)) _ c.inner_cells.ensures refl (omega arith) in
    (run_run inner _ (a.at + 2 * (a.cw - 1)) a.w _ c.last_cell.ensures refl (omega arith)).eq
