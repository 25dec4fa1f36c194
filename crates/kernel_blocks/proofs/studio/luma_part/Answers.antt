use Rattle.std.proofs.Common.{refl}
use lib.Ieee.{of_bits}
use Rattle.kernel_blocks.specs.Inner.Studio.{luma_part}
use Rattle.kernel_blocks.proofs.studio.luma_part.Goals as goal

pub returns : goal.returns
unfolding of_bits luma_part
returns c =
    rw (c.whole.ensures, c.from.ensures) refl
