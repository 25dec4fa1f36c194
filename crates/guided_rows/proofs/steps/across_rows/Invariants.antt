use Rattle.std.proofs.Common.{◌≡◌, ◌-◌, ◌≤◌}
use Rattle.image.specs.Picture.{picture_of, planes_seen}
use Rattle.guided.specs.Scratch.{across_rows}
use Rattle.guided_window.specs.Inner.Lent.{components_of}
use Rattle.guided_rows.proofs.steps.across_rows.Given as goal

abbrev pub invariant-loop-j : goal.invariant-loop-j
invariant-loop-j l =
    (l.j - l.from ≤ l.to - l.from) × (l.s ≡ across_rows (picture_of l.layout (planes_seen l.planes)) (components_of l.components) l.from (l.j - l.from) l.initial.s)
