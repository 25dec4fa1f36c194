-- t is the sum of the first i samples, each of them at most 65,535.
use Rattle.std.proofs.Common.{◌≡◌, ◌+◌, ◌*◌, ◌≤◌}
use Rattle.laws.specs.Sums.{sum_to}
use Rattle.image.specs.Samples.{sample_at, seen}
use Rattle.guided_across.proofs.luma.row_sum.Given as goal

abbrev pub invariant-loop-i : goal.invariant-loop-i
invariant-loop-i l = (l.t ≤ 65535 * l.i) × (l.t ≡ sum_to l.i (λ dx. sample_at l.bytes (seen l.plane) l.y (l.x + dx)))
