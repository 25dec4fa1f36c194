use Rattle.std.proofs.Common.{◌*◌}
use Rattle.laws.proofs.Lists.{Run}
use Rattle.linear.specs.Inner.AcrossRows.{parts_in, between_at}
use Rattle.linear.proofs.across.across_each.Given as goal

abbrev pub invariant-loop-i : goal.invariant-loop-i
invariant-loop-i l = Run l.initial.s l.s l.dst (l.r * l.i) (between_at (parts_in l.parts) l.r l.initial.s l.src)
