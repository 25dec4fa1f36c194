use Rattle.kernels.proofs.Colours.{colour_at}
use Rattle.kernels.proofs.exact.ycbcr_frac_to_rgb8_at.Goals as goal

pub returns : goal.returns
returns c =
    let a = c.args in
    colour_at a.y a.cb256 a.cr256 a.maxval
    (rw (c.from.ensures, c.from-d.ensures, c.from-cr.ensures) at c.chroma_at.ensures)
    (rw (c.from-d.ensures, c.from-cb.ensures, c.from-cr.ensures) at c.green_at.ensures)
    (rw (c.from-2.ensures, c.from-d.ensures, c.from-cb.ensures) at c.chroma_at-2.ensures)
