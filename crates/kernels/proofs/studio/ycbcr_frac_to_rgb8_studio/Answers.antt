use Rattle.std.proofs.Common.{◌∙◌}
use Rattle.kernels.proofs.Studios.{colour_studio}
use Rattle.kernels.proofs.studio.ycbcr_frac_to_rgb8_studio.Goals as goal

pub returns : goal.returns
returns c =
    colour_studio c.args.y c.args.cb256 c.args.cr256 _ _ (c.from-cb.ensures ∙ c.limit_chroma.ensures) (c.from-cr.ensures ∙ c.limit_chroma-2.ensures)
    (rw c.from.ensures at c.studio_chroma.ensures)
    c.studio_green.ensures
    (rw c.from-2.ensures at c.studio_chroma-2.ensures)
