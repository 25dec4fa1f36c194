-- The loop's invariant: s is s₀ with the first i inner sums, put from dst + 1 on, each by the terms that s₀ had.
-- `inner_more` is a turn. Its one step that isn't arithmetic: what was stored lies behind the terms (`behind`), so that they are read as at the beginning.
use Rattle.guided.specs.Guided.{three}
use Rattle.std.proofs.Common.{◌≡◌, ◌+◌}
use Rattle.laws.specs.Floats.{◌⊕◌}
use Rattle.laws.specs.Lists.{put}
use Rattle.guided_across.proofs.sums.sum_inner.Given as goal

abbrev pub invariant-loop-i : goal.invariant-loop-i
invariant-loop-i g l = l.s ≡ put l.initial.s (l.dst + 1) l.i (λ k. three ◌⊕◌ l.n (g.T.Terms.term l.terms l.initial.s) (1 + k))
