-- The loop's invariant: s is s₀ with the luma of the first i cells, put from dst + from on; `run_more` is a turn by what `cell_luma` promises.
-- Only the plane is read, so that no store can change what a later turn reads.
use Rattle.guided.specs.Guided.{luma_of}
use Rattle.image.specs.Samples.{sample_at, seen}
use Rattle.std.proofs.Common.{◌≡◌, ◌+◌}
use Rattle.laws.specs.Lists.{put}
use Rattle.guided_across.proofs.luma.luma_cells.Given as goal

abbrev pub invariant-loop-i : goal.invariant-loop-i
invariant-loop-i l = l.s ≡ put l.initial.s (l.dst + l.from) l.i (λ k. luma_of l.layout (sample_at l.layout.sample_bytes (seen l.plane)) l.j (l.from + k))
