-- Each plane is turned behind those before it, which keep what they have (`reversed_kept`).
use Rattle.std.proofs.Common.{arith}
use Rattle.picture.proofs.Reversals.{reversed_kept}
use Rattle.picture.proofs.turned.turn_planes.Goals as goal

pub returns : goal.returns
returns c =
    let t = c.requires.taken in
    let y = c.turn.ensures in
    let u = c.turn-2.ensures in
    let v = c.turn-3.ensures in
    record {
      y_turned = reversed_kept (reversed_kept y.turns u t.y_rows) v (omega (arith, t.y_rows, t.cb_rows));
      cb_turned = reversed_kept u.turns v t.cb_rows;
      cr_turned = v.turns;
    }
