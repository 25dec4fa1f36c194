use Rattle.std.proofs.Common.{◌∙◌, ◌+◌, ◌*◌, ◌≤◌, ◌<◌, min, arith}
use lib.Ieee.{nan}
use Rattle.laws.proofs.Lists.{put_same, run_none, run_at, run_after, run_over}
use Rattle.linear.specs.Inner.AcrossRows.{parts_in}
use Rattle.linear.proofs.AcrossRuns.{between_same}
use Rattle.linear.proofs.twos.across_twos.Goals as goal

pub loop-b-init : goal.loop-b-init
loop-b-init c = run_at (run_none _ _ _) _ (omega arith)

pub loop-b-preserved : goal.loop-b-preserved
loop-b-preserved c =
    let a = c.args in
    let i = c.min-i.result in
    let left : c.loop-b.b * 8 < a.n = omega arith in
    let place : (i ≤ c.loop-b.b * 8) × (c.loop-b.b * 8 < i + 8) × (i + 8 ≤ a.n) = (omega arith, omega arith, omega arith) in
    let r = run_at c.loop-b.invariant (2 * (c.loop-b.b * 8)) (omega arith) in
    let z = run_over r _ (2 * i) 16 nan (c.put_block.ensures ∙ put_same _ _ 16 _ _ (λ k q. c.twos_block-v.ensures k q ∙ between_same (parts_in a.parts) 2 c.loop-b.s a.s.now a.src (2 * i + k) (λ m. run_after r (a.src + m) nan (omega arith)))) (omega arith) (omega arith) (omega arith) in
    run_at z (2 * min ((c.loop-b.b + 1) * 8) a.n) (omega arith)
