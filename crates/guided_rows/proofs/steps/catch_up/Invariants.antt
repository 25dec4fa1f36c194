-- Scratch is `catch_up` so far, and h_next is `h_at`; `finished_more` is a turn.
use Rattle.std.proofs.Common.{◌≡◌, ◌-◌, ◌≤◌}
use Rattle.image.specs.Picture.{picture_of, planes_seen}
use Rattle.guided.specs.Scratch.{catch_up, h_at}
use Rattle.guided_window.specs.Inner.Lent.{components_of}
use Rattle.guided_rows.proofs.steps.catch_up.Given as goal

abbrev pub invariant-loop-j : goal.invariant-loop-j
invariant-loop-j l =
    let p = picture_of l.layout (planes_seen l.planes) in
    (l.j - l.f ≤ l.to - l.f) × (l.h_next ≡ h_at p l.h l.f (l.j - l.f)) × (l.s ≡ catch_up p (components_of l.components) l.h l.f (l.j - l.f) l.initial.s)
