-- An accepted call passed all its tests: the state is one that the calls leave, and the row lies in the picture.
use Rattle.std.proofs.Common.{◌∙◌, sym}
use Rattle.laws.proofs.Refusals.{accepted_failed}
use Rattle.guided.specs.Calls.{seek_call}
use Rattle.guided.proofs.Acceptance.{fine, seek_handed}
use Rattle.reader.proofs.seeking.seek.Goals as goal

pub after_seek-requires : goal.after_seek-requires
after_seek-requires c =
    let h = seek_handed (seek_call c.args.y c.args.reader.now) (accepted_failed _ (sym c.seek_answer.ensures ∙ c.in_ok-seek_answer.was)) in
    record { sound = (fine _ h.state).sound; y_lt_h = h.inside }
