use Rattle.std.proofs.Common.{◌∙◌, arith}
use Rattle.image.specs.Picture.{picture_of}
use Rattle.guided_rows.proofs.Catching.{finished_none, finished_more}
use Rattle.guided_rows.proofs.steps.catch_up.Goals as goal

pub loop-j-init : goal.loop-j-init
loop-j-init c =
    let n = finished_none _ _ _ _ _ in (omega arith, n.0, n.1)

pub loop-j-preserved : goal.loop-j-preserved
unfolding picture_of
loop-j-preserved c =
    let i = c.loop-j.invariant in
    let n = finished_more _ _ _ _ c.loop-j.j _ _ _ _ _ _ (omega arith) i.1 i.2 c.min-end.ensures c.across_rows.ensures (c.finish.ensures _) in (omega arith, c.max-h_next.ensures ∙ n.0, n.1)
