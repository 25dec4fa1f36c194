use Rattle.std.proofs.Common.{◌+◌, ◌*◌}
use Rattle.laws.proofs.Lists.{Run}
use Rattle.image.specs.Samples.{sample_of}
use Rattle.image.proofs.sixteens.block.Given as goal

abbrev pub invariant-loop-k : goal.invariant-loop-k
invariant-loop-k g l = Run l.initial.v l.v 0 l.k (λ m. sample_of g.row.BYTES l.bytes (l.at + m * g.row.BYTES))
