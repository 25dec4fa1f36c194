-- Five texts are put one behind the other, and `line_written` of Written says that the line holds them as one. The contracts count the room:
-- a width has three digits at most and a height four, so that every part fits 16 bytes.
use Rattle.std.proofs.Common.{append_assoc, arith}
use Rattle.netpbm.specs.Lines.{ppm_header}
use Rattle.netpbm.proofs.Digits.{three_most, four_most, header_most}
use Rattle.netpbm.proofs.Written.{written_on, line_written}
use Rattle.netpbm.proofs.lines.ppm_header.Goals as goal

pub put_number-requires : goal.put_number-requires
put_number-requires c =
    let w = three_most c.args.w (omega arith) in
    record { n_bound = omega arith; n_bound_2 = omega arith }

pub put-requires : goal.put-requires
put-requires c =
    let w = three_most c.args.w (omega arith) in omega arith

pub put_number-sides-requires : goal.put_number-sides-requires
put_number-sides-requires c =
    let a = c.args in
    let w = three_most a.w (omega arith) in
    let h = four_most a.h in
    record { n_bound = omega arith; n_bound_2 = omega arith }

pub put-requires-2 : goal.put-requires-2
put-requires-2 c =
    let a = c.args in
    let w = three_most a.w (omega arith) in
    let h = four_most a.h in
    omega arith

pub returns : goal.returns
unfolding ppm_header
returns c =
    line_written (ppm_header c.args.w c.args.h) _ (header_most c.args.w c.args.h c.requires.0)
    (rw (c.put-2.ensures.is, c.put_number-sides.ensures.is, c.put.ensures.is, c.put_number.ensures.is, c.put-magic.ensures.is, c.new.ensures.0) (simp (written_on, append_assoc)))
