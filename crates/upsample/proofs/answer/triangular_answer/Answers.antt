-- Samples are looked at where the layout passed, and the plane is not short.
use Rattle.std.proofs.Common.{◌∙◌, sym, false}
use Rattle.laws.proofs.Refusals.{accepted_failed}
use Rattle.image.proofs.Layouts.{sound}
use Rattle.upsample.proofs.answer.triangular_answer.Goals as goal

pub plane_above-above-requires : goal.plane_above-above-requires
plane_above-above-requires c =
    let o = sound false c.args.layout (accepted_failed _ (sym c.answer.ensures ∙ c.in_ok-answer.was)) in
    let f = accepted_failed _ (sym c.first.ensures ∙ c.in_ok-first.was) in
    (o.bytes_some, o.bytes_most, sym c.is_short.ensures ∙ f.1.1.0)
