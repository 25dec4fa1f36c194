-- The row lies within its plane (`block_room`), and x + 16 <= w puts the block inside the row.
use Rattle.colour_rows.proofs.RowSamples.{block_room}
use Rattle.colour_rows.proofs.samples.luma_block.Goals as goal

pub row_block-requires : goal.row_block-requires
row_block-requires c = block_room c.args.lent.luma c.args.x c.requires
