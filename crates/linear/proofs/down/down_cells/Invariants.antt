-- A loop that writes a run (`Run` of laws), each value a lerp of two samples. Sample i lies within its row by `row_fits`: i < n gives
-- (i + 1) * bytes <= n * bytes, the one product that omega doesn't find; with it every read and every address is linear arithmetic.
use Rattle.linear.specs.Inner.Down.{down_at}
use Rattle.laws.proofs.Lists.{Run}
use Rattle.linear.proofs.down.down_cells.Given as goal

abbrev pub invariant-loop-i : goal.invariant-loop-i
invariant-loop-i g l = Run l.initial.s l.s l.dst l.i (down_at l.plane g.row.BYTES l.a l.b l.f)
