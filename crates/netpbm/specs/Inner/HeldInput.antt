-- The layout of three images as the inner functions hold them. Definitions only.
use Rattle.laws.specs.Axes.{plain}
use Rattle.image.specs.declared.layout.Layout.{Layout}
use Rattle.image.specs.declared.layout.Range.TheVariants.{Full}
use Rattle.netpbm.specs.declared.pgm.Image.{Image}
use Rattle.netpbm.specs.Images.{sample_bytes}
use Rattle.netpbm.specs.Reading.{ratio_for}

-- the layout that the sides of three images and the first one's maxval make, of which Reading's `input_layout` is the same over the input itself
unfoldable pub layout_held : Image → Image → Image → Layout
layout_held y cb cr = record {
  w = y.w;
  h = y.h;
  rh = ratio_for y.w cb.w cr.w;
  rv = ratio_for y.h cb.h cr.h;
  cw = cb.w;
  ch = cb.h;
  across = plain;
  down = plain;
  sample_bytes = sample_bytes y.maxval;
  maxval = y.maxval;
  range = Full;
}
