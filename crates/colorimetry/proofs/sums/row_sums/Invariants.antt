-- The promise, as far as the loop has come.
use Rattle.std.proofs.Common.{◌*◌}
use Rattle.colorimetry.specs.Inner.Sums.{row_sum, Totals}
use Rattle.colorimetry.proofs.sums.row_sums.Given as goal

abbrev pub invariant-loop-i : goal.invariant-loop-i
invariant-loop-i l = Totals (λ k. row_sum l.rgb l.at l.i k) (255 * l.i) (record { r = l.r; g = l.g; b = l.b })
