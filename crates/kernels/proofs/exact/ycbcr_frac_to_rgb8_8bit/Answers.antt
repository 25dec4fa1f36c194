use Rattle.kernels.proofs.Colours.{colour_255}
use Rattle.kernels.proofs.exact.ycbcr_frac_to_rgb8_8bit.Goals as goal

pub returns : goal.returns
returns c =
    colour_255 c.args.y c.args.cb256 c.args.cr256 _ _ c.limit_chroma-cb.ensures c.limit_chroma-cr.ensures
    c.plain_chroma.ensures c.plain_green.ensures c.plain_chroma-2.ensures
