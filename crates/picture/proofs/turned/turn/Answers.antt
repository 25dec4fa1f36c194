use Rattle.std.proofs.Common.{refl, mul-le-mul_right, arith}
use Rattle.picture.proofs.Reversals.{turned_more}
use Rattle.picture.proofs.turned.turn.Goals as goal

pub loop-i-preserved : goal.loop-i-preserved
loop-i-preserved c =
    turned_more c.loop-i.invariant _ _ refl c.turn_sample.ensures (omega (arith, mul-le-mul_right c.args.b c.loop-i-test.true))
