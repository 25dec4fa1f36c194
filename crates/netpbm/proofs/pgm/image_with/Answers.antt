use Rattle.std.proofs.lemmas.Result.{err_from_is_err_and}
use Rattle.netpbm.proofs.Fields.{image_refused}
use Rattle.netpbm.proofs.pgm.image_with.Goals as goal

pub returns-in_err-image_answer : goal.returns-in_err-image_answer
returns-in_err-image_answer c =
    let r = c.requires in
    let p = err_from_is_err_and c.from_residual.result c.from_residual.ensures.1 in
    rw (p.1, p.2) (image_refused _ _ _ _ r.input_len_bound.0 r.header_value.0 r.header_value.1 _ c.in_err-image_answer.ensures)
