-- s is s₀ with the first i lerps, put from dst on, each of the cells that s₀ held: both rows of cells end before dst, so that s holds them too.
use Rattle.std.proofs.Common.{◌≡◌}
use Rattle.image.specs.Scratch.{cell_at}
use Rattle.taps.specs.Taps.{lerp_of}
use Rattle.laws.specs.Lists.{put}
use Rattle.guided_pixels.proofs.columns.lerp_row.Given as goal

abbrev pub invariant-loop-i : goal.invariant-loop-i
invariant-loop-i l = l.s ≡ put l.initial.s l.dst l.i (λ k. lerp_of (cell_at l.initial.s l.a k) (cell_at l.initial.s l.b k) l.f)
