use Rattle.laws.proofs.Lists.{Rows}
use Rattle.image.specs.Samples.{sample_at, seen}
use Rattle.upsample.specs.Triangular.{triangular_sample}
use Rattle.upsample.proofs.plane.triangular.Given as goal

abbrev pub invariant-loop-y : goal.invariant-loop-y
invariant-loop-y l = Rows l.initial.out l.out l.layout.w l.y (triangular_sample l.layout (sample_at l.layout.sample_bytes (seen l.plane)))
