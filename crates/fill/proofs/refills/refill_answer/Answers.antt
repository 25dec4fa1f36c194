-- Where all tests but the last failed, what that says is what comparing the planes asks.
use Rattle.std.proofs.Common.{◌∙◌, sym}
use Rattle.laws.proofs.Refusals.{accepted_failed}
use Rattle.image.specs.Picture.{planes_seen}
use Rattle.fill.specs.Refill.{refill_call}
use Rattle.fill.proofs.Taken.{lent_taken}
use Rattle.fill.proofs.refills.refill_answer.Goals as goal

pub other_change-changed-requires : goal.other_change-changed-requires
other_change-changed-requires c =
    let a = c.args in
    let t = lent_taken (refill_call a.layout (planes_seen a.old) (planes_seen a.new) a.cells a.kernel a.size a.s.now a.out.now) (accepted_failed _ (sym c.lent_answer.ensures ∙ c.in_ok-lent_answer.was)) in
    (t.planes.sound, t.planes.old, t.planes.new, t.cells)
