-- The loop's invariant: s is s₀ with the first i samples, put from dst on; `run_more` is a turn.
use Rattle.image.specs.Samples.{sample_of}
use Rattle.std.proofs.Common.{◌≡◌, ◌+◌, ◌*◌}
use Rattle.laws.specs.Floats.{f32}
use Rattle.laws.specs.Lists.{put}
use Rattle.guided_across.proofs.sums.load_row.Given as goal

abbrev pub invariant-loop-i : goal.invariant-loop-i
invariant-loop-i l = l.s ≡ put l.initial.s l.dst l.i (λ k. f32 (sample_of l.sample_bytes l.plane (l.at + k * l.sample_bytes)))
