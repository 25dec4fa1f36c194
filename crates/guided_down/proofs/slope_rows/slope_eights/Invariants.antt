-- s is s₀ with the blocks made so far, by what s₀ held; `eights_more` is a turn.
use Rattle.std.proofs.Common.{◌≡◌, ◌+◌, ◌*◌}
use Rattle.laws.specs.Lists.{put}
use Rattle.guided_down.specs.Inner.Slopes.{slope_inside}
use Rattle.guided_down.proofs.slope_rows.slope_eights.Given as goal

abbrev pub invariant-loop-b : goal.invariant-loop-b
invariant-loop-b l = l.s ≡ put l.initial.s (l.dst + l.from) (8 * l.b) (λ k. slope_inside l.initial.s l.t l.eps (l.from + k))
