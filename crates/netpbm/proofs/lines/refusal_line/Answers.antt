-- Three texts are put one behind the other, and `line_written` of Written says that the line holds them as one. There is always room: the
-- number is a byte, so that it has three digits at most (`three_most`).
use Rattle.std.proofs.Common.{refl, arith}
use Rattle.netpbm.specs.Lines.{refusal_line}
use Rattle.netpbm.proofs.Digits.{three_most, refusal_most}
use Rattle.netpbm.proofs.Written.{written_on, line_written}
use Rattle.netpbm.proofs.lines.refusal_line.Goals as goal

pub put_number-requires : goal.put_number-requires
put_number-requires c =
    let n = three_most c.from.result (omega arith) in
    record { n_bound = omega arith; n_bound_2 = omega arith }

pub put-requires-2 : goal.put-requires-2
put-requires-2 c =
    let n = three_most c.from.result (omega arith) in omega arith

pub returns : goal.returns
unfolding refusal_line
returns c =
    let n = refusal_most c.args.n (omega arith) in
    line_written (refusal_line c.args.n) _ (omega arith)
    (rw (← c.from.ensures, c.put-2.ensures.is, c.put_number.ensures.is, c.put.ensures.is, c.new.ensures.0, written_on, written_on) refl)
