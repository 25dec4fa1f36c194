-- A loop that writes a run by blocks of sixteen, up to the last pair. The last block overlaps what is stored, and stores the same again:
-- `run_over`. `between_same` says that its cells are still those that the call was handed.
use Rattle.std.proofs.Common.{◌*◌, min}
use Rattle.laws.proofs.Lists.{Run}
use Rattle.linear.specs.Inner.AcrossRows.{parts_in, between_at}
use Rattle.linear.proofs.twos.across_twos.Given as goal

abbrev pub invariant-loop-b : goal.invariant-loop-b
invariant-loop-b l = Run l.initial.s l.s l.dst (2 * min (l.b * 8) l.n) (between_at (parts_in l.parts) 2 l.initial.s l.src)
