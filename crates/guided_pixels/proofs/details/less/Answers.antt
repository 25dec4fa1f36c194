use Rattle.std.proofs.Common.{refl}
use Rattle.laws.specs.Lists.{table}
use Rattle.guided_pixels.proofs.details.less.Goals as goal

pub returns : goal.returns
unfolding table
returns c =
    λ f g p q. rw (p, q) refl
