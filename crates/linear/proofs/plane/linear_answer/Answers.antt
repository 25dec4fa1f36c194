-- Samples are looked at where the layout passed, and the plane is not short.
use Rattle.std.proofs.Common.{◌∙◌, sym, false}
use Rattle.laws.proofs.Refusals.{accepted_failed}
use Rattle.image.proofs.Layouts.{shaped}
use Rattle.linear.proofs.plane.linear_answer.Goals as goal

pub plane_above-above-requires : goal.plane_above-above-requires
plane_above-above-requires c =
    let o = shaped false false c.args.layout (accepted_failed _ (sym c.answer_for.ensures ∙ c.in_ok-answer_for.was)) in
    let f = accepted_failed _ (sym c.first.ensures ∙ c.in_ok-first.was) in
    (o.bytes_some, o.bytes_most, sym c.is_short.ensures ∙ f.0)
