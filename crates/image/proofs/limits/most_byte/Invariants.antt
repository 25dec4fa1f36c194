use Rattle.std.proofs.Common.{◌≡◌, ℕ, ◌+◌, get_or}
use Rattle.image.specs.Inner.Limits.{greatest}
use Rattle.image.proofs.limits.most_byte.Given as goal

abbrev pub invariant-loop-i : goal.invariant-loop-i
invariant-loop-i l = l.m ≡ greatest l.i (λ (k : ℕ). get_or l.plane.bytes.now (l.at + k) 0)
