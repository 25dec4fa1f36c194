use Rattle.std.proofs.Common.{refl}
use Rattle.kernel_blocks.specs.Stores.{pixel}
use Rattle.kernel_blocks.proofs.stores.put_pixel.Goals as goal

pub returns : goal.returns
unfolding pixel
returns c =
    refl
