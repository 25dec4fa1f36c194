-- The invariant is a `Pair` of the blocks made so far, by what scratch held at the beginning; `pair_eights_more` is a turn.
use Rattle.std.proofs.Common.{◌+◌, ◌*◌}
use Rattle.guided_down.specs.Inner.Slopes.{slope_inside}
use Rattle.guided_down.proofs.Pairs.{Pair}
use Rattle.guided_down.proofs.slope_pairs.pair_eights.Given as goal

abbrev pub invariant-loop-n : goal.invariant-loop-n
invariant-loop-n l = Pair l.initial.s l.s (l.a + l.from) (l.b + l.from) (8 * l.n) (λ k. slope_inside l.initial.s l.t l.eps (l.from + k)) (λ k. slope_inside l.initial.s l.u l.eps (l.from + k))
