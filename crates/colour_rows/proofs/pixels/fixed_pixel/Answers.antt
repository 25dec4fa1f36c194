use Rattle.std.proofs.Common.{◌∙◌}
use Rattle.colour_rows.proofs.Colouring.{fixed_by}
use Rattle.colour_rows.proofs.pixels.fixed_pixel.Goals as goal

pub returns : goal.returns
returns c =
    λ d. c.ycbcr_to_rgb8_fixed.ensures ∙ fixed_by _ _ _ d (c.from.ensures ∙ c.whole_chroma.ensures) (c.from-2.ensures ∙ c.whole_chroma-2.ensures)
