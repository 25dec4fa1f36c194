-- None of the tests that were passed applies: what is left of the list answers as the whole of it.
use Rattle.std.proofs.Common.{◌≡◌, drop}
use Rattle.laws.specs.Refusals.{first}
use Rattle.laws.proofs.refusal.first.Given as goal

abbrev pub invariant-loop-applies : goal.invariant-loop-applies
invariant-loop-applies g l = first l.fn.tests ≡ first (drop l.applies-index l.applies-items)
