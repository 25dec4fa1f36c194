-- A loop that writes a run (`Run` of laws), a value a turn. The cells lie behind what is written, and by `run_after` are read as they were.
use Rattle.laws.proofs.Lists.{Run}
use Rattle.linear.specs.Inner.AcrossRows.{cycle_at}
use Rattle.linear.proofs.cycles.cycle_step.Given as goal

abbrev pub invariant-loop-k : goal.invariant-loop-k
invariant-loop-k l = Run l.initial.s l.s l.dst l.k (cycle_at l.turn l.initial.s l.src)
