-- Samples are looked at where the layout passed, and no plane is short.
use Rattle.std.proofs.Common.{◌∙◌, sym}
use Rattle.laws.proofs.Refusals.{accepted_failed}
use Rattle.image.proofs.Layouts.{shaped}
use Rattle.fill.proofs.answer.fill_answer.Goals as goal

pub above_planes-requires : goal.above_planes-requires
above_planes-requires c =
    let o = shaped _ _ c.args.layout (accepted_failed _ (sym c.answer_for.ensures ∙ c.in_ok-answer_for.was)) in
    let f = accepted_failed _ (sym c.first.ensures ∙ c.in_ok-first.was) in
    (o.bytes_some, o.bytes_most, sym c.bad_planes.ensures ∙ f.1.0)
