-- The one fact that a turn hands to the next is that the input so far fits its buffer, which `replayed` asks for and promises again.
use Rattle.std.proofs.Common.{◌≤◌, length}
use Rattle.test_picture.proofs.replay_all.Given as goal

abbrev pub invariant-loop : goal.invariant-loop
invariant-loop g l = l.len ≤ length l.input
