use Rattle.colour_rows.proofs.Colouring.{full_is, studio_is}
use Rattle.colour_rows.proofs.pixels.ranged_pixel.Goals as goal

pub returns-in-Full : goal.returns-in-Full
returns-in-Full c =
    rw (full_is c.args.kernel c.args.layout.maxval c.in-Full.is) at c.full_pixel.ensures

pub returns-in-Studio : goal.returns-in-Studio
returns-in-Studio c =
    rw (studio_is c.args.kernel c.args.layout.maxval c.in-Studio.is) at c.studio_pixel.ensures
