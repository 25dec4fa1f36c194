use Rattle.std.proofs.Common.{refl}
use lib.Ieee.{of_bits}
use Rattle.laws.specs.Lists.{table}
use Rattle.fround.proofs.vectors.grid_lanes.Goals as goal

pub returns : goal.returns
unfolding table of_bits
returns c =
    λ f p. rw (c.fmax_lanes.ensures, p) refl
