use Rattle.std.proofs.Common.{sym, ◌∙◌, lit<}
use Rattle.kernels.proofs.Colours.{colour_fixed}
use Rattle.kernels.proofs.FixedPoint.{plus_fixed_is}
use Rattle.kernels.proofs.fixed.ycbcr_to_rgb8_fixed.Goals as goal

pub returns : goal.returns
returns c =
    let a = c.args in
    colour_fixed
    a.y
    a.cb
    a.cr
    (c.limit8.ensures ∙ rw (c.from.ensures, c.red_offset.ensures) (sym (plus_fixed_is 91881 180 a.y a.cr (lit< tt))))
    c.fixed_green.ensures
    (c.limit8-2.ensures ∙ rw (c.from-2.ensures, c.blue_offset.ensures) (sym (plus_fixed_is 116130 227 a.y a.cb (lit< tt))))
