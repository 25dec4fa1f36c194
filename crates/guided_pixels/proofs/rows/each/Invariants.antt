-- s is s₀ with the columns of the first i cells from cell 1 on; `each_more` is a turn.
use Rattle.std.proofs.Common.{◌≡◌, ◌*◌}
use Rattle.guided_pixels.specs.Inner.Lines.{line_run}
use Rattle.guided_pixels.proofs.rows.each.Given as goal

abbrev pub invariant-loop-i : goal.invariant-loop-i
invariant-loop-i g l = l.s ≡ line_run (g.L.Line.value l.line l.layout) l.dst l.layout.rh (l.i * l.layout.rh) l.initial.s
