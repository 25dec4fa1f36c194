use lib.Ieee.{nan}
use Rattle.std.proofs.Common.{get_or}
use Rattle.laws.proofs.Lists.{Run}
use Rattle.taps.specs.Taps.{lerp_of}
use Rattle.linear.proofs.across.put_between.Given as goal

abbrev pub invariant-loop-k : goal.invariant-loop-k
invariant-loop-k l = Run l.initial.s l.s l.dst l.k (λ i. lerp_of l.a l.b (get_or l.parts i nan))
