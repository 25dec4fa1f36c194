-- If the doubts joined so far are 0, each of them was.
use Rattle.std.proofs.Common.{◌≡◌, ℕ, ◌<◌}
use Rattle.kernel_blocks.proofs.doubts.any_doubt.Given as goal

abbrev pub invariant-loop-i : goal.invariant-loop-i
invariant-loop-i g l = l.joined ≡ 0 → (j : ℕ) → j < l.i → goal.F-post g l.doubt j 0
