-- All but one need is found by search, since `picture` asks for nothing of what it is lent.
-- The one is that `write_outcome` finds the whole picture in out: `outcome_fits`, which follows from what `picture` promises.
use Rattle.std.proofs.Common.{arith}
use Rattle.ycbcrtoppm.proofs.Fits.{outcome_fits}
use Rattle.ycbcrtoppm.proofs.answer.Goals as goal

pub write_outcome-requires : goal.write_outcome-requires
write_outcome-requires g c =
    let w = outcome_fits _ c.picture-outcome.ensures in omega arith
