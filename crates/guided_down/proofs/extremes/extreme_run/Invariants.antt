use Rattle.std.proofs.Common.{◌≡◌, ◌+◌}
use Rattle.laws.specs.Lists.{put}
use Rattle.image.specs.Samples.{sample_at, seen}
use Rattle.guided.specs.Guided.{extreme_of}
use Rattle.guided_down.specs.Inner.Extremes.{op_of}
use Rattle.guided_down.proofs.extremes.extreme_run.Given as goal

abbrev pub invariant-loop-i : goal.invariant-loop-i
invariant-loop-i l = l.s ≡ put l.initial.s (l.dst + l.from) l.i (λ k. extreme_of l.layout (op_of l.pick) (sample_at l.layout.sample_bytes (seen l.plane)) l.j (l.from + k))
