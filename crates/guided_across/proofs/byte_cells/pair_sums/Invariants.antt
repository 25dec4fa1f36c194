-- Each of the first k numbers of v is its pair's sum and at most 510, a bound that sums of rows need later.
use Rattle.std.proofs.Common.{◌≡◌, ℕ, ◌≤◌, ◌<◌, get_or, length}
use Rattle.guided_across.specs.Inner.ByteCells.{pair_sum}
use Rattle.guided_across.proofs.byte_cells.pair_sums.Given as goal

abbrev pub invariant-loop-k : goal.invariant-loop-k
invariant-loop-k l = (length l.v ≡ 16) × ((m : ℕ) → m < l.k → (get_or l.v m 0 ≡ pair_sum l.plane l.at m) × (get_or l.v m 0 ≤ 510))
