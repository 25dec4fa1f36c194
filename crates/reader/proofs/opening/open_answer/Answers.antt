-- Samples are looked at where the layout passed, and no plane is short.
use Rattle.std.proofs.Common.{◌∙◌, sym, false}
use Rattle.laws.proofs.Refusals.{accepted_failed}
use Rattle.image.proofs.Layouts.{sound}
use Rattle.reader.proofs.opening.open_answer.Goals as goal

pub above_planes-requires : goal.above_planes-requires
above_planes-requires c =
    let o = sound false c.args.layout (accepted_failed _ (sym c.answer.ensures ∙ c.in_ok-answer.was)) in
    let f = accepted_failed _ (sym c.first.ensures ∙ c.in_ok-first.was) in
    (o.bytes_some, o.bytes_most, sym c.bad_planes.ensures ∙ f.1.0)
