use Rattle.std.proofs.Common.{sym}
use Rattle.image.specs.Picture.{picture_of}
use Rattle.guided_rows.specs.CatchingUp.{guided_step}
use Rattle.guided_rows.proofs.steps.guided_step.Goals as goal

pub returns : goal.returns
unfolding guided_step picture_of
returns c =
    let k = c.counters_before-k.ensures in
    rw (sym k.0, sym k.1) c.row_steps.ensures
