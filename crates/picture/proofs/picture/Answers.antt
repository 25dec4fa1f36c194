-- Where the reading is refused the picture is, for the same reason.
use Rattle.std.proofs.Common.{◌∙◌, refl, sym}
use Rattle.std.proofs.lemmas.Result.{err_from_is_err_and}
use Rattle.picture.proofs.Readings.{read_refused}
use Rattle.picture.proofs.picture.Goals as goal

pub returns-in_err-reading : goal.returns-in_err-reading
returns-in_err-reading c =
    let a = c.args in
    let p = err_from_is_err_and c.from_residual.result c.from_residual.ensures.1 in
    rw (p.1, p.2) (record { answers = read_refused a.input.now a.s.now a.out.now _ (sym c.read.ensures ∙ c.in_err-reading.was); gives = refl; scratches = refl })
