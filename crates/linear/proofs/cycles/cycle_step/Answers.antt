use Rattle.std.proofs.Common.{refl, ◌∙◌, ◌+◌, arith, get_or}
use lib.Ieee.{nan}
use Rattle.laws.proofs.Lists.{run_more, run_after}
use Rattle.linear.proofs.cycles.cycle_step.Goals as goal

pub loop-k-preserved : goal.loop-k-preserved
loop-k-preserved c =
    let a = c.args in
    let l = c.loop-k in
    let w = l.invariant in
    let i = get_or a.turn.cells l.k 0 in
    let p = run_after w (a.src + i) nan (omega arith) in
    let q = run_after w (a.src + (i + 1)) nan (omega arith) in
    let v = c.lerp.ensures in
    run_more w _ (v ∙ rw (p, q) refl)
