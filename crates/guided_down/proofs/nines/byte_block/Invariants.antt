use Rattle.std.proofs.Common.{◌≡◌, ℕ, ◌<◌, get_or, length}
use Rattle.guided_window.specs.Inner.Buffers.{on}
use Rattle.guided_down.specs.Inner.Nines.{nine_from}
use Rattle.guided_down.proofs.nines.byte_block.Given as goal

abbrev pub invariant-loop-k : goal.invariant-loop-k
invariant-loop-k l = (length l.block ≡ 16) × ((j : ℕ) → j < l.k → get_or l.block j 0 ≡ nine_from l.pick 1 l.plane (on l.t j))
