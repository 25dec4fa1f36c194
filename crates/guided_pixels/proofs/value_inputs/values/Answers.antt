use Rattle.std.proofs.Common.{refl}
use Rattle.laws.specs.Lists.{table}
use Rattle.guided_pixels.proofs.value_inputs.values.Goals as goal

pub returns : goal.returns
unfolding table
returns c =
    λ f g h lo hi p q r u v. rw (c.fmin_lanes.ensures, c.fmax_lanes.ensures, p, q, r, u, v) refl
