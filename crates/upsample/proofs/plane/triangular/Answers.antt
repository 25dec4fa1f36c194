use Rattle.std.proofs.Common.{arith}
use Rattle.laws.proofs.Lists.{rows_more, rows_end}
use Rattle.upsample.specs.Triangular.{triangular_plane}
use Rattle.upsample.proofs.plane.triangular.Goals as goal

pub loop-y-preserved : goal.loop-y-preserved
loop-y-preserved c =
    rows_more c.loop-y.invariant _ c.triangular_row.ensures

pub returns : goal.returns
unfolding triangular_plane
returns c =
    rows_end c.loop-y.invariant _ (omega arith) (omega arith)
