use Rattle.laws.proofs.Lists.{Run}
use Rattle.colorimetry.specs.Inner.Blending.{mixed_at}
use Rattle.colorimetry.proofs.mix.mix_bytes.Given as goal

abbrev pub invariant-loop-i : goal.invariant-loop-i
invariant-loop-i l = Run l.initial.out l.out 0 l.i (mixed_at l.weight l.initial.out l.second)
