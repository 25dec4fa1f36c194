use Rattle.std.proofs.Common.{◌∙◌}
use Rattle.colour_rows.proofs.Colouring.{scaled_by}
use Rattle.colour_rows.proofs.pixels.scaled_pixel.Goals as goal

pub returns : goal.returns
returns c =
    c.ycbcr_frac_to_rgb8_at.ensures ∙ scaled_by _ _ _ _ c.requires.2 c.scaled_chroma.ensures.is c.scaled_chroma-2.ensures.is
