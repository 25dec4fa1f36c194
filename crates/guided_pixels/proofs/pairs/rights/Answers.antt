use Rattle.std.proofs.Common.{refl}
use Rattle.laws.specs.Lists.{table}
use Rattle.guided_pixels.proofs.pairs.rights.Goals as goal

pub returns : goal.returns
unfolding table
returns c =
    λ f p. rw p refl
