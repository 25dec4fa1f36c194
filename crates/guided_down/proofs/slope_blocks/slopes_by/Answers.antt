use Rattle.std.proofs.Common.{refl}
use lib.Ieee.{of_bits, of_int}
use Rattle.laws.specs.Lists.{table}
use Rattle.guided_down.specs.Inner.Slopes.{slope_by}
use Rattle.guided_down.proofs.slope_blocks.slopes_by.Goals as goal

pub returns : goal.returns
unfolding table slope_by of_bits of_int
returns c =
    λ f g h j p q r w. rw (c.fmax_lanes.ensures, p, q, r, w) refl
