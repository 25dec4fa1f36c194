-- Two invariants go round the loop: the rows of out that are written (`Rows` of laws) and scratch after as many rows (`Scratched`).
-- A turn's hard step is `stored_is`: what `store_row` rounds out of scratch is the row that `linear_row` has just left there.
use Rattle.laws.proofs.Lists.{Rows}
use Rattle.image.specs.Samples.{sample_at, seen}
use Rattle.fround.specs.Rounding.{round_clamped}
use Rattle.linear.specs.Linear.{linear_sample}
use Rattle.linear.proofs.LinearRows.{Scratched}
use Rattle.linear.proofs.plane.linear_rows.Given as goal

abbrev pub invariant-loop-y : goal.invariant-loop-y
invariant-loop-y l = Rows l.initial.out l.out l.layout.w l.y (λ y x. round_clamped l.layout.maxval (linear_sample l.layout (sample_at l.layout.sample_bytes (seen l.plane)) y x))
    × Scratched l.layout (seen l.plane) l.y l.initial.s l.s
