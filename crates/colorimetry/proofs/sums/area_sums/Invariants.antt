-- The promise, as far as the loop has come, and a linear bound beside it, by which nothing overflows: 2,088,960 is 255 * 8,192.
use Rattle.std.proofs.Common.{◌*◌}
use Rattle.colorimetry.specs.Inner.Sums.{area_sum, SumsMost, Totals}
use Rattle.colorimetry.proofs.sums.area_sums.Given as goal

abbrev pub invariant-loop-j : goal.invariant-loop-j
invariant-loop-j l = Totals (λ k. area_sum l.rgb l.at l.pitch l.n l.j k) (255 * (l.n * l.j)) l.sums × SumsMost (2088960 * l.j) l.sums
