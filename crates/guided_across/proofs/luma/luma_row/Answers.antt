use Rattle.guided_across.proofs.Areas.{luma_parts}
use Rattle.guided_across.specs.Inner.Luma.{luma_run}
use Rattle.image.specs.Samples.{Plane, seen}
use Rattle.std.proofs.Common.{ap, ◌∙◌, ◌-◌}
use Rattle.guided_across.proofs.luma.luma_row.Goals as goal

pub returns : goal.returns
returns c =
    let a = c.args in
    let l = a.layout in
    let p : Plane = seen a.plane in
    let q = c.luma_head-n in
    c.luma_cells.ensures ∙ ap (luma_run l p a.j a.dst q.result (l.cw - q.result)) q.ensures.1 ∙ luma_parts l p a.j a.dst q.result a.s.now q.ensures.0
