-- What was read so far fits the buffer, whose length no read changes; std's `read` promises as much of one read.
-- The loop ends since it goes on only where bytes were read, so that less room is left each time.
use Rattle.std.proofs.Common.{◌-◌, ◌≤◌, length}
use Rattle.ycbcrtoppm.proofs.read_all.Given as goal

abbrev pub invariant-loop-len : goal.invariant-loop-len
invariant-loop-len g l = l.len ≤ length l.buf

abbrev pub decreases-loop-len : goal.decreases-loop-len
decreases-loop-len g l = length l.initial.buf - l.len
