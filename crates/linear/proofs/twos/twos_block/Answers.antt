use Rattle.std.proofs.Common.{refl, ◌+◌, ◌*◌, arith, get_or}
use lib.Ieee.{nan}
use Rattle.laws.proofs.Lists.{run_at, front_more}
use Rattle.linear.specs.Inner.AcrossRows.{parts_in}
use Rattle.linear.proofs.AcrossRuns.{between_is}
use Rattle.linear.proofs.twos.twos_block.Goals as goal

pub loop-k-preserved : goal.loop-k-preserved
loop-k-preserved c =
    let o = c.args in
    let xs = o.s.now in
    let l = c.loop-k in
    let p = o.i + l.k in
    let a = get_or xs (o.src + p) nan in
    let b = get_or xs (o.src + (p + 1)) nan in
    let part = parts_in o.parts in
    let v = front_more l.invariant c.lerp.result (between_is part 2 xs o.src p 0 (2 * o.i + 2 * l.k) (omega arith) (omega arith) a b c.lerp.result refl refl c.lerp.ensures) in
    let w = front_more v c.lerp-in-loop-k.result (between_is part 2 xs o.src p 1 (2 * o.i + (2 * l.k + 1)) (omega arith) (omega arith) a b c.lerp-in-loop-k.result refl refl c.lerp-in-loop-k.ensures) in
    run_at w (2 * (l.k + 1)) (omega arith)
