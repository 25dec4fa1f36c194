use Rattle.std.proofs.Common.{refl, ◌∙◌}
use Rattle.kernel_blocks.proofs.StudioBlocks.{studio_pixel}
use Rattle.colour_rows.proofs.Colouring.{studio_by_is}
use Rattle.colour_rows.proofs.kinds.StudioKindKind.pixels.Goals as goal

pub studio_block-requires : goal.studio_block-requires
studio_block-requires c =
    λ k h. ((_, c.chroma_block-cb.ensures k h), (_, c.chroma_block-cr.ensures k h))

pub returns : goal.returns
returns c =
    λ k h. studio_pixel c.studio_block.ensures k h (c.chroma_block-cb.ensures k h) (c.chroma_block-cr.ensures k h) ∙ studio_by_is _ _ _ refl refl
