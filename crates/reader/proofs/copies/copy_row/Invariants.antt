-- The loop's invariant is `Run` of laws: the first i values are copied and all else is as it was.
use Rattle.image.specs.Scratch.{cell_at}
use Rattle.laws.proofs.Lists.{Run}
use Rattle.reader.proofs.copies.copy_row.Given as goal

abbrev pub invariant-loop-i : goal.invariant-loop-i
invariant-loop-i l = Run l.initial.out l.out l.at l.i (cell_at l.s l.src)
