-- Samples are looked at where the layout passed, and neither plane is short.
use Rattle.std.proofs.Common.{◌∙◌, sym, false}
use Rattle.laws.proofs.Refusals.{accepted_failed}
use Rattle.image.proofs.Layouts.{sound}
use Rattle.guided_plane.proofs.plane.plane_answer.Goals as goal

pub above_pair-requires : goal.above_pair-requires
above_pair-requires c =
    let o = sound false c.args.layout (accepted_failed _ (sym c.answer.ensures ∙ c.in_ok-answer.was)) in
    let f = accepted_failed _ (sym c.first.ensures ∙ c.in_ok-first.was) in
    (o, sym c.short_pair.ensures ∙ f.1.0)
