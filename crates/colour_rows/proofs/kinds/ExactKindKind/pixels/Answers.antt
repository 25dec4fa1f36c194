use Rattle.std.proofs.Common.{refl, ◌∙◌}
use Rattle.kernel_blocks.proofs.Blocks.{block_pixel_is}
use Rattle.colour_rows.proofs.Colouring.{exact_by}
use Rattle.colour_rows.proofs.kinds.ExactKindKind.pixels.Goals as goal

pub rgb_block-requires : goal.rgb_block-requires
rgb_block-requires c =
    λ k h. ((_, c.chroma_block-cb.ensures k h), (_, c.chroma_block-cr.ensures k h))

pub returns : goal.returns
returns c =
    λ k h. block_pixel_is c.rgb_block.ensures k h (c.chroma_block-cb.ensures k h) (c.chroma_block-cr.ensures k h) ∙ exact_by _ _ _ refl refl
