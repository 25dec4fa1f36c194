-- One output or two, written from nothing (`run_one`, `run_two`). They are the row's last by `pair_left` and `pair_right` of Axis: the sum before
-- the last is that of cell cw - 2, and the one after it is the last itself, since min (i + 1) (cw - 1) is cw - 1 there.
use Rattle.std.proofs.Common.{refl, ◌+◌, ◌-◌, ◌*◌, arith, set}
use Rattle.laws.proofs.Lists.{run_none, run_one, run_two}
use Rattle.upsample.specs.Inner.Pairs.{sums, across_row}
use Rattle.upsample.proofs.Axis.{pair_left, pair_right}
use Rattle.upsample.proofs.across.last_cell.Goals as goal

pub returns-then-n-eq1 : goal.returns-then-n-eq1
returns-then-n-eq1 g c =
    let a = c.args in
    let v = sums g.S.Sum.BYTES a.rows in
    (run_one (run_none a.out.now a.at (λ x. across_row a.bias a.cw v (2 * (a.cw - 1) + x))) (set a.out.now a.at c.weigh.result) a.at a.n c.weigh.result refl (omega arith) c.if-n-eq1.true
    (omega (arith, pair_left a.cw v a.bias (a.cw - 2) (a.cw - 1) (2 * (a.cw - 1) + 0) (omega arith) (omega arith), c.sum-before.ensures.0, c.sum-last.ensures.0))
    ).eq

pub returns : goal.returns
returns g c =
    let a = c.args in
    let v = sums g.S.Sum.BYTES a.rows in
    (run_two (run_none a.out.now a.at (λ x. across_row a.bias a.cw v (2 * (a.cw - 1) + x))) _ a.at a.n _ _ c.put_pair.ensures (omega arith) (omega arith)
    (omega (arith, pair_left a.cw v a.bias (a.cw - 2) (a.cw - 1) (2 * (a.cw - 1) + 0) (omega arith) (omega arith), c.sum-before.ensures.0, c.sum-last.ensures.0))
    (omega (arith, pair_right a.cw v a.bias (a.cw - 1) (a.cw - 1) (2 * (a.cw - 1) + 1) (omega arith) refl, c.sum-last.ensures.0))
    ).eq
