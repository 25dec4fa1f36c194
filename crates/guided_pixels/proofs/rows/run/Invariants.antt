-- s is s₀ with the values of the first i columns, by what s₀ held: a turn reads s, and `line_more` says that the value is the same.
use Rattle.std.proofs.Common.{◌≡◌, ◌+◌}
use Rattle.laws.specs.Lists.{put}
use Rattle.guided_pixels.proofs.rows.run.Given as goal

abbrev pub invariant-loop-i : goal.invariant-loop-i
invariant-loop-i g l = l.s ≡ put l.initial.s (l.dst + l.from) l.i (λ k. g.L.Line.value l.line l.layout l.initial.s (l.from + k))
