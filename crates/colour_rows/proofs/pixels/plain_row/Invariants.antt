-- A loop that stores pixels (`Stored` of kernel_blocks), one a turn by `stored_more`; `in_row_read` says that its samples are the row's.
-- That pixel x fits the output is `row_fits`, the one product that omega doesn't find.
use Rattle.colour_rows.specs.Colours.{colour_in}
use Rattle.colour_rows.specs.Inner.Colours.{lent_pixel}
use Rattle.kernel_blocks.proofs.Stored.{Stored}
use Rattle.colour_rows.proofs.pixels.plain_row.Given as goal

abbrev pub invariant-loop-x : goal.invariant-loop-x
invariant-loop-x l = Stored l.initial.out l.out l.at l.size l.x (lent_pixel (colour_in l.lent.layout.range l.kernel l.lent.layout.maxval) l.lent)
