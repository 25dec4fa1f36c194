use Rattle.std.proofs.Common.{refl}
use Rattle.laws.specs.Lists.{table}
use Rattle.guided_pixels.proofs.pairs.lerps.Goals as goal

pub returns : goal.returns
unfolding table
returns c =
    λ g h p q. rw (p, q) refl
