-- An accepted call passed all its tests, the layout's among them.
use Rattle.std.proofs.Common.{◌∙◌, sym}
use Rattle.laws.proofs.Refusals.{accepted_failed}
use Rattle.image.proofs.Layouts.{sound}
use Rattle.image.specs.Picture.{planes_seen}
use Rattle.guided.specs.Calls.{open_call}
use Rattle.guided.proofs.Acceptance.{open_handed}
use Rattle.reader.proofs.opening.open.Goals as goal

pub after_open-requires : goal.after_open-requires
after_open-requires c =
    let a = c.args in
    sound _ _ (open_handed (open_call a.layout (planes_seen a.planes) a.s.now a.reader.now) (accepted_failed _ (sym (c.open_answer.ensures a.reader.now) ∙ c.in_ok-open_answer.was))).layout
