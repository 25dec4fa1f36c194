use Rattle.std.proofs.Common.{◌+◌, ◌-◌, get_or}
use Rattle.laws.proofs.Lists.{Run}
use Rattle.picture.proofs.turned.turn_sample.Given as goal

abbrev pub invariant-loop-t : goal.invariant-loop-t
invariant-loop-t l = Run l.initial.planes l.planes l.at l.t (λ k. get_or l.input (l.at + (l.b - 1 - k)) 0)
