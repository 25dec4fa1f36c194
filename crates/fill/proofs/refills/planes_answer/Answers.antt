-- Samples are looked at where the layout passed, and no plane of either set is short.
use Rattle.std.proofs.Common.{◌∙◌, sym}
use Rattle.laws.proofs.Refusals.{accepted_failed}
use Rattle.image.proofs.Layouts.{neither, sound}
use Rattle.fill.proofs.refills.planes_answer.Goals as goal

pub either_above-requires : goal.either_above-requires
either_above-requires c =
    let o = sound _ c.args.layout (accepted_failed _ (sym c.answer.ensures ∙ c.in_ok-answer.was)) in
    let f = accepted_failed _ (sym c.first.ensures ∙ c.in_ok-first.was) in
    let p = neither _ _ (sym c.either_short.ensures ∙ f.1.0) in
    (o, p.0, p.1)
