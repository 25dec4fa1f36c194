use Rattle.std.proofs.Common.{refl, ◌+◌, ◌*◌, arith}
use Rattle.laws.proofs.Lists.{run_two}
use Rattle.upsample.specs.Inner.Pairs.{sums}
use Rattle.upsample.proofs.Axis.{pair_left, pair_right}
use Rattle.upsample.proofs.across.inner_cells.Goals as goal

pub loop-k-preserved : goal.loop-k-preserved
loop-k-preserved g c =
    let a = c.args in
    let v = sums g.S.Sum.BYTES a.rows in
    let k = c.loop-k.k in run_two c.loop-k.invariant _ (a.at + 2 * k) (2 * (k + 1)) _ _ c.put_pair.ensures refl (omega arith)
    (omega (arith, pair_left a.cw v a.bias k (k + 1) (2 + 2 * k) (omega arith) (omega arith), c.sum-before.ensures.0, c.sum-middle.ensures.0))
    (omega (arith, pair_right a.cw v a.bias (k + 1) (k + 2) (2 + (2 * k + 1)) (omega arith) (omega arith), c.sum-middle.ensures.0, c.sum-after.ensures.0))
