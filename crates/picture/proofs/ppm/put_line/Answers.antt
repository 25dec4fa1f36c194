use Rattle.std.proofs.Common.{◌≡◌, arith, rules, length}
use Rattle.laws.proofs.Copies.{copied_front}
use Rattle.picture.proofs.ppm.put_line.Goals as goal

pub returns : goal.returns
returns c =
    let l = c.args.line in
    let e : length l.bytes ≡ 16 = search rules in
    rw c.copy_from_slice.ensures.after (copied_front 0 l.bytes c.args.out.now l.len (omega arith) (omega arith))
