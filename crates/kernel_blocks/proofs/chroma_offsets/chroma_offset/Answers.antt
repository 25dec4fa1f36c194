use lib.Ieee.{of_bits}
use Rattle.kernel_blocks.proofs.ChromaOffsets.{chroma_offset_is, chroma_offset_number}
use Rattle.kernel_blocks.proofs.chroma_offsets.chroma_offset.Goals as goal

pub float_to_bits-result : goal.float_to_bits-result
unfolding of_bits
float_to_bits-result c =
    chroma_offset_number c.requires.0.1 c.requires.1.1

pub returns : goal.returns
unfolding of_bits
returns c =
    λ m n t h. chroma_offset_is t h
