-- Only the plane is read, so that no store can change what a later turn reads.
use Rattle.std.proofs.Common.{◌≡◌, ◌*◌}
use Rattle.guided_window.specs.Inner.Buffers.{on}
use Rattle.laws.specs.Floats.{f32}
use Rattle.laws.specs.Lists.{put}
use Rattle.guided_down.specs.Inner.Nines.{nine_from}
use Rattle.guided_down.proofs.nines.nine_cells.Given as goal

abbrev pub invariant-loop-i : goal.invariant-loop-i
invariant-loop-i g l =
    let b = g.S.Sample.BYTES in
    l.s ≡ put l.initial.s l.dst l.i (λ k. f32 (nine_from l.pick b l.plane (on l.t (k * b))))
