-- After b blocks of sixteen s is s₀ with that many extremes, put from dst on; `put_block` is a turn, and the last block, which may overlap.
use Rattle.std.proofs.Common.{◌≡◌, ◌*◌}
use Rattle.laws.specs.Floats.{f32}
use Rattle.laws.specs.Lists.{put}
use Rattle.guided_window.specs.Inner.Buffers.{on}
use Rattle.guided_down.specs.Inner.Nines.{nine_from}
use Rattle.guided_down.proofs.nines.byte_run.Given as goal

abbrev pub invariant-loop-b : goal.invariant-loop-b
invariant-loop-b l = l.s ≡ put l.initial.s l.dst (l.b * 16) (λ i. f32 (nine_from l.pick 1 l.plane (on l.t i)))
