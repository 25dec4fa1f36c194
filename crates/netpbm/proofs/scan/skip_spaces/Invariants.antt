-- The loop's invariant: what is left to skip, from the state that `inside` is, ends where all of it does. A byte that is passed stands inside
-- the input (`space_inside`), so that `end` doesn't wrap and the loop ends.
use Rattle.std.proofs.Common.{◌≡◌, ◌+◌, ◌-◌, length, drop}
use Rattle.netpbm.specs.Bytes.{spaces, past_spaces}
use Rattle.netpbm.proofs.scan.skip_spaces.Given as goal

abbrev pub invariant-loop-inside : goal.invariant-loop-inside
invariant-loop-inside l = past_spaces l.input l.at ≡ l.end + spaces l.inside (drop l.end l.input)

abbrev pub decreases-loop-inside : goal.decreases-loop-inside
decreases-loop-inside l = length l.input - l.end
