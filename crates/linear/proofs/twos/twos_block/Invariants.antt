-- The block is filled from the front, two values a turn (`front_more`), each by `between_is`: outputs 0 and 1 of pair i + k are outputs
-- 2i + 2k and 2i + 2k + 1. The slice isn't written, so that the cells are the call's without a law.
use Rattle.std.proofs.Common.{◌+◌, ◌*◌}
use Rattle.laws.proofs.Lists.{Run}
use Rattle.linear.specs.Inner.AcrossRows.{parts_in, between_at}
use Rattle.linear.proofs.twos.twos_block.Given as goal

abbrev pub invariant-loop-k : goal.invariant-loop-k
invariant-loop-k l = Run l.initial.v l.v 0 (2 * l.k) (λ m. between_at (parts_in l.parts) 2 l.s l.src (2 * l.i + m))
