use Rattle.std.proofs.Common.{arith}
use Rattle.colorimetry.proofs.Means.{whole_small}
use Rattle.colorimetry.proofs.patch.whole_mean.Goals as goal

pub overflow_cast-result : goal.overflow_cast-result
overflow_cast-result c =
    let h = whole_small c.args.sum c.args.count (omega arith) (omega arith) in omega (arith, h)
