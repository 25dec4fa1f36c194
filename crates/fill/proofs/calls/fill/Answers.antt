-- An accepted call passed all its tests.
use Rattle.std.proofs.Common.{◌∙◌, sym}
use Rattle.image.specs.Picture.{planes_seen}
use Rattle.fill.specs.Tests.{fill_call}
use Rattle.fill.proofs.Acceptance.{ready}
use Rattle.fill.proofs.calls.fill.Goals as goal

pub fill_rows-requires-clause-fill_lent : goal.fill_rows-requires-clause-fill_lent
fill_rows-requires-clause-fill_lent c =
    let a = c.args in
    ready (fill_call a.layout (planes_seen a.planes) a.upsampling a.kernel a.size a.s.now a.out.now) (sym c.fill_answer.ensures ∙ c.in_ok-fill_answer.was)
