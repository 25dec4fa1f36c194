use Rattle.std.proofs.Common.{◌∙◌, arith}
use Rattle.colour_rows.specs.Inner.Colours.{lent_row}
use Rattle.kernel_blocks.proofs.Stored.{stored_none, stored_more, stored_end}
use Rattle.colour_rows.proofs.Colouring.{in_row_read}
use Rattle.colour_rows.proofs.pixels.plain_row.Goals as goal

pub loop-x-init : goal.loop-x-init
loop-x-init c =
    stored_none _ _ _ _

pub loop-x-preserved : goal.loop-x-preserved
loop-x-preserved c =
    stored_more c.loop-x.invariant _ _ c.put_pixel.ensures (c.ranged_pixel-p.ensures ∙ in_row_read _ c.args.lent c.loop-x.x c.luma_at-y.ensures)

pub returns : goal.returns
unfolding lent_row
returns c =
    stored_end c.loop-x.invariant _ (omega arith) (omega arith)
