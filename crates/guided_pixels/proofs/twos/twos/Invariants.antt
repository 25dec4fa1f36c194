-- After b blocks of eight cells s is s₀ with that many cells' values from column 2 on; `twos_more` is a turn, and the last block, which may overlap.
use Rattle.std.proofs.Common.{◌≡◌, ◌*◌}
use Rattle.guided_pixels.specs.Inner.Lines.{line_run}
use Rattle.guided_pixels.proofs.twos.twos.Given as goal

abbrev pub invariant-loop-b : goal.invariant-loop-b
invariant-loop-b g l = l.s ≡ line_run (g.L.Line.value l.line l.layout) l.dst 2 (2 * (l.b * 8)) l.initial.s
