-- A loop that writes a run (`Run` of laws), a value a turn: `down_row` unfolds to the quotient that `one_axis` promises.
-- Cell x of w lies within both rows, which have w cells.
use Rattle.laws.proofs.Lists.{Run}
use Rattle.upsample.specs.Inner.Pairs.{down_row, sums}
use Rattle.upsample.proofs.down.down_cells.Given as goal

abbrev pub invariant-loop-x : goal.invariant-loop-x
invariant-loop-x g l = Run l.initial.out l.out l.at l.x (down_row (sums g.row.BYTES l.rows) l.bias)
