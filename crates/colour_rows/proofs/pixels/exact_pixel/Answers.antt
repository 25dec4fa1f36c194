use Rattle.std.proofs.Common.{◌∙◌}
use Rattle.colour_rows.proofs.Colouring.{exact_by}
use Rattle.colour_rows.proofs.pixels.exact_pixel.Goals as goal

pub returns : goal.returns
returns c =
    c.ycbcr_frac_to_rgb8_8bit.ensures ∙ exact_by _ _ _ c.chroma_256ths.ensures.is c.chroma_256ths-2.ensures.is
