use Rattle.picture.specs.Inner.Planes.{Turned}
use Rattle.picture.proofs.turned.turn.Given as goal

abbrev pub invariant-loop-i : goal.invariant-loop-i
invariant-loop-i l = Turned l.b l.i l.at l.input l.initial.planes l.planes
