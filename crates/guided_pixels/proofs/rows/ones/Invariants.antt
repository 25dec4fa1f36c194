use Rattle.std.proofs.Common.{◌≡◌, ◌+◌}
use Rattle.laws.specs.Lists.{put}
use Rattle.guided_pixels.proofs.rows.ones.Given as goal

abbrev pub invariant-loop-i : goal.invariant-loop-i
invariant-loop-i g l = l.s ≡ put l.initial.s (l.dst + 1) l.i (λ k. g.L.Line.value l.line l.layout l.initial.s (1 + k))
