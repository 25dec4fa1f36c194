use Rattle.std.proofs.Common.{◌∙◌}
use Rattle.colour_rows.proofs.Colouring.{studio_by_is}
use Rattle.colour_rows.proofs.pixels.studio_pixel.Goals as goal

pub returns : goal.returns
returns c =
    c.ycbcr_frac_to_rgb8_studio.ensures ∙ studio_by_is _ _ _ c.chroma_256ths.ensures.is c.chroma_256ths-2.ensures.is
