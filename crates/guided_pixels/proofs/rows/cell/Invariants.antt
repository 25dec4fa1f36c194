use Rattle.std.proofs.Common.{◌≡◌, ◌+◌}
use Rattle.laws.specs.Lists.{put}
use Rattle.guided_pixels.proofs.rows.cell.Given as goal

abbrev pub invariant-loop-k : goal.invariant-loop-k
invariant-loop-k g l = l.s ≡ put l.initial.s (l.dst + l.x) l.k (λ j. g.L.Line.value l.line l.layout l.initial.s (l.x + j))
