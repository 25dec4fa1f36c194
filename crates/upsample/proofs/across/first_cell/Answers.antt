use Rattle.std.proofs.Common.{refl, arith}
use Rattle.laws.proofs.Lists.{run_none, run_two}
use Rattle.upsample.specs.Inner.Pairs.{sums, across_row}
use Rattle.upsample.proofs.Axis.{pair_left, pair_right}
use Rattle.upsample.proofs.across.first_cell.Goals as goal

pub returns : goal.returns
returns g c =
    let a = c.args in
    let v = sums g.S.Sum.BYTES a.rows in
    (run_two (run_none a.out.now a.at (across_row a.bias a.cw v)) _ a.at 2 _ _ c.put_pair.ensures (omega arith) refl
    (omega (arith, pair_left a.cw v a.bias 0 0 0 refl refl, c.sum-middle.ensures.0))
    (omega (arith, pair_right a.cw v a.bias 0 1 1 (omega arith) refl, c.sum-middle.ensures.0, c.sum-after.ensures.0))
    ).eq
