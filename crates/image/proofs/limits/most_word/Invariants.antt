use Rattle.std.proofs.Common.{◌≡◌, ℕ, ◌+◌, ◌*◌}
use Rattle.image.specs.Inner.Limits.{greatest}
use Rattle.image.specs.Samples.{sample_of}
use Rattle.image.proofs.limits.most_word.Given as goal

abbrev pub invariant-loop-i : goal.invariant-loop-i
invariant-loop-i l = l.m ≡ greatest l.i (λ (k : ℕ). sample_of 2 l.plane.bytes.now (l.at + k * 2))
