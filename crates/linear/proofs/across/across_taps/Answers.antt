use Rattle.std.proofs.Common.{refl, ◌∙◌, ◌+◌, arith}
use lib.Ieee.{nan}
use Rattle.laws.proofs.Lists.{run_more, run_after}
use Rattle.linear.proofs.across.across_taps.Goals as goal

pub loop-i-preserved : goal.loop-i-preserved
loop-i-preserved c =
    let a = c.args in
    let l = c.loop-i in
    let t = c.tap_at-t in
    let w = l.invariant in
    let p = run_after w (a.row.src + t.result.i0) nan (omega arith) in
    let q = run_after w (a.row.src + t.result.i1) nan (omega arith) in
    let e = t.ensures.is in
    let v = c.lerp.ensures in
    run_more w _ (v ∙ rw (p, q, e) refl)
