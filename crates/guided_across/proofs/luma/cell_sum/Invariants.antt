use Rattle.std.proofs.Common.{◌≡◌, ◌+◌, ◌*◌, ◌≤◌}
use Rattle.laws.specs.Sums.{sum_to}
use Rattle.guided_across.specs.Inner.Luma.{row_sum}
use Rattle.image.specs.Samples.{seen}
use Rattle.guided_across.proofs.luma.cell_sum.Given as goal

abbrev pub invariant-loop-i : goal.invariant-loop-i
invariant-loop-i l = (l.t ≤ 262140 * l.i) × (l.t ≡ sum_to l.i (λ dy. row_sum l.layout (seen l.plane) l.x (l.y + dy) l.n))
