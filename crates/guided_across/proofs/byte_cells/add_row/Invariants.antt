-- The first k numbers are added, and the others are as they were.
use Rattle.std.proofs.Common.{◌≡◌, ℕ, ◌+◌, ◌≤◌, ◌<◌, get_or}
use Rattle.guided_across.proofs.byte_cells.add_row.Given as goal

abbrev pub invariant-loop-k : goal.invariant-loop-k
invariant-loop-k l = ((m : ℕ) → m < l.k → get_or l.sums m 0 ≡ get_or l.initial.sums m 0 + get_or l.row m 0) × ((m : ℕ) → l.k ≤ m → get_or l.sums m 0 ≡ get_or l.initial.sums m 0)
