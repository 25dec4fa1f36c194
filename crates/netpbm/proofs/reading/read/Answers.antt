use Rattle.std.proofs.lemmas.Result.{err_from_is_err_and}
use Rattle.netpbm.proofs.Whole.{cb_refused, cr_refused, reading_is}
use Rattle.netpbm.proofs.reading.read.Goals as goal

pub returns-in_err-cb : goal.returns-in_err-cb
returns-in_err-cb c =
    let p = err_from_is_err_and c.from_residual-in_err-cb.result c.from_residual-in_err-cb.ensures.1 in
    rw (p.1, p.2) (cb_refused _ _ _ c.if-input-gt-LONGEST.false c.in_ok-y.ensures c.in_err-cb.ensures)

pub returns-in_err-cr : goal.returns-in_err-cr
returns-in_err-cr c =
    let p = err_from_is_err_and c.from_residual-in_err-cr.result c.from_residual-in_err-cr.ensures.1 in
    rw (p.1, p.2) (cr_refused _ _ _ _ c.if-input-gt-LONGEST.false c.in_ok-y.ensures c.in_ok-cb.ensures c.in_err-cr.ensures)

pub returns-in_err-first : goal.returns-in_err-first
returns-in_err-first c =
    let p = err_from_is_err_and c.from_residual-in_err-first.result c.from_residual-in_err-first.ensures.1 in
    let l = c.layout_of-layout.ensures in
    rw (p.1, p.2) (reading_is _ _ _ _ _ _ _ _ c.if-input-gt-LONGEST.false c.in_ok-y.ensures c.in_ok-cb.ensures c.in_ok-cr.ensures
    l c.bad_size.ensures c.no_ratio.ensures c.in_err-first.ensures)

pub returns : goal.returns
returns c =
    let l = c.layout_of-layout.ensures in
    reading_is _ _ _ _ _ _ _ _ c.if-input-gt-LONGEST.false c.in_ok-y.ensures c.in_ok-cb.ensures c.in_ok-cr.ensures
    l c.bad_size.ensures c.no_ratio.ensures c.in_ok-first.ensures
