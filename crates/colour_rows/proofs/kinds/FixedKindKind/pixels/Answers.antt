use Rattle.std.proofs.Common.{◌∙◌}
use Rattle.colour_rows.proofs.Colouring.{fixed_by}
use Rattle.colour_rows.proofs.kinds.FixedKindKind.pixels.Goals as goal

pub returns : goal.returns
returns c =
    λ k h. c.fixed_block.ensures k h ∙ fixed_by _ _ _ 255 (c.whole_chroma_block-cb.ensures k h) (c.whole_chroma_block-cr.ensures k h)
