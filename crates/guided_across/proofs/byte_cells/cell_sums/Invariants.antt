-- The numbers so far are `Sums` of dy rows; that no sum leaves sixteen bits is the bound inside it, 510 a row.
use Rattle.guided_across.proofs.ByteBlocks.{Sums}
use Rattle.guided_across.proofs.byte_cells.cell_sums.Given as goal

abbrev pub invariant-loop-dy : goal.invariant-loop-dy
invariant-loop-dy l = Sums l.plane.bytes.now l.at l.plane.stride l.dy l.sums
