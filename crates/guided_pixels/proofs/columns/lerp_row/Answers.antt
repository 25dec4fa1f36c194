use Rattle.std.proofs.Common.{arith}
use Rattle.guided_pixels.proofs.DownLerps.{lerps_more}
use Rattle.guided_pixels.proofs.columns.lerp_row.Goals as goal

pub loop-i-preserved : goal.loop-i-preserved
loop-i-preserved c =
    let a = c.args in lerps_more a.a a.b a.f a.n a.dst c.loop-i.i _ _ c.loop-i.invariant (omega arith) (omega arith) (omega arith) _ c.lerp.ensures
