use Rattle.std.proofs.Common.{refl}
use lib.Ieee.{of_bits, of_int}
use Rattle.laws.specs.Lists.{table}
use Rattle.guided_down.proofs.slope_blocks.means.Goals as goal

pub returns : goal.returns
unfolding table of_bits of_int
returns c =
    λ f g h p q r. rw (p, q, r) refl
