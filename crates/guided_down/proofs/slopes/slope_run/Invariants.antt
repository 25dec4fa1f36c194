-- s is s₀ with the first i slopes, put from dst on, each by the sums that s₀ held: these lie before the row of slopes, so that s holds them too.
use Rattle.std.proofs.Common.{◌≡◌}
use Rattle.laws.specs.Lists.{put}
use Rattle.guided_down.specs.Inner.Slopes.{slope_at}
use Rattle.guided_down.proofs.slopes.slope_run.Given as goal

abbrev pub invariant-loop-i : goal.invariant-loop-i
invariant-loop-i l = l.s ≡ put l.initial.s l.dst l.i (slope_at l.initial.s l.t l.n l.eps)
