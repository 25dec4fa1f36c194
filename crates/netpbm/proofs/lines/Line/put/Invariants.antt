use Rattle.netpbm.proofs.Written.{Putting}
use Rattle.netpbm.proofs.lines.Line.put.Given as goal

abbrev pub invariant-loop-b : goal.invariant-loop-b
invariant-loop-b l = Putting l.initial.line l.line l.text l.b-index
