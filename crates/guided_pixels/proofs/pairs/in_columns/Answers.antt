use Rattle.std.proofs.Common.{refl}
use Rattle.laws.specs.Lists.{table}
use Rattle.guided_pixels.proofs.pairs.in_columns.Goals as goal

pub returns : goal.returns
unfolding table
returns c =
    λ f p q. rw (p, q) refl
