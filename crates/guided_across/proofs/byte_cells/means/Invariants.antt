use Rattle.std.proofs.Common.{◌≡◌, ℕ, ◌<◌, get_or, length}
use Rattle.std.specs.Float.{nan}
use Rattle.laws.specs.Floats.{f32, ◌⊘◌}
use Rattle.guided_across.proofs.byte_cells.means.Given as goal

abbrev pub invariant-loop-k : goal.invariant-loop-k
invariant-loop-k l = (length l.v ≡ 16) × ((m : ℕ) → m < l.k → get_or l.v m nan ≡ f32 (get_or l.sums m 0) ⊘ f32 l.n)
