use Rattle.std.proofs.Common.{◌+◌}
use Rattle.colour_rows.proofs.Colouring.{in_row}
use Rattle.colour_rows.proofs.kinds.pixels_at.Goals as goal

pub returns : goal.returns
returns g c =
    record { at = λ k h. rw (in_row g.K.Kind.colour c.args.lent (c.args.x + k) (c.luma_block.ensures k h)) at (c.pixels.ensures k h) }
