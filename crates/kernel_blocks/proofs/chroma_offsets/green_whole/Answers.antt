use Rattle.kernels.proofs.Channels.{green_biased}
use Rattle.kernel_blocks.proofs.GreenQuotient.{green_fast}
use Rattle.kernel_blocks.proofs.chroma_offsets.green_whole.Goals as goal

pub returns : goal.returns
returns c =
    let p = c.requires in rw (c.from-both.ensures, c.from.ensures) (green_biased _ _ _ p.0 p.1 (green_fast _ _ p.0 p.1))
