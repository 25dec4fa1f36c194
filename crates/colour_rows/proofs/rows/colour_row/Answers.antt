use Rattle.std.proofs.Common.{◌∙◌}
use Rattle.colour_rows.proofs.Colouring.{ranged_row_is}
use Rattle.colour_rows.proofs.rows.colour_row.Goals as goal

pub returns-then-by_blocks : goal.returns-then-by_blocks
returns-then-by_blocks c =
    c.block_row.ensures ∙ ranged_row_is _ _ _ _ _

pub returns : goal.returns
returns c =
    c.plain_row.ensures ∙ ranged_row_is _ _ _ _ _
