use Rattle.image.specs.Picture.{Planes, picture_of, planes_seen}
use Rattle.guided_window.specs.Inner.Lent.{components_of}
use Rattle.guided.specs.Scratch.{catch_up, row_steps}
use Rattle.guided_pixels.specs.Inner.Row.{window_row}
use Rattle.guided.proofs.Taken.{taken}
use Rattle.std.proofs.Common.{ap, ◌∙◌, ℕ, ◌-◌, arith}
use Rattle.guided_rows.proofs.steps.row_steps.Goals as goal

pub catch_up-requires-clause-to_le_ch : goal.catch_up-requires-clause-to_le_ch
catch_up-requires-clause-to_le_ch c =
    let t = (taken c.args.layout c.requires.lent.sound c.args.row c.requires.row_lt_h.0).inside in
    let e = c.done_counters-done.ensures.1 in
    (omega arith, c.requires.row_lt_h.1)

pub returns : goal.returns
unfolding row_steps
returns c =
    let a = c.args in
    let ps : Planes = planes_seen a.planes in
    let p = picture_of a.layout ps in
    let ks = components_of a.components in
    c.guided_row.ensures ps.cb ps.cr
    ∙ ap (window_row p ks a.row) (c.catch_up.ensures ∙ ap (λ (n : ℕ). catch_up p ks a.h a.f (n - a.f) a.s.now) c.done_counters-done.ensures.1)
