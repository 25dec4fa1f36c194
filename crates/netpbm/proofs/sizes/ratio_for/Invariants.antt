use Rattle.netpbm.proofs.Ratios.{Tried}
use Rattle.netpbm.proofs.sizes.ratio_for.Given as goal

abbrev pub invariant-loop-r : goal.invariant-loop-r
invariant-loop-r l = Tried l.n l.a l.b l.r
