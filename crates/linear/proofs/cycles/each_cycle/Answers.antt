use Rattle.std.proofs.Common.{◌≡◌, refl, ap, ◌∙◌, ℕ, ◌+◌, ◌*◌, ◌≤◌, ◌<◌, mul-le-mul_left, arith}
use lib.Ieee.{nan}
use Rattle.laws.proofs.Lists.{put_same, run_none, run_at, run_run, run_end, run_after}
use Rattle.linear.specs.Inner.AcrossRows.{across_run, cycle_run}
use Rattle.linear.proofs.Turns.{turned_from, turn_is}
use Rattle.linear.proofs.cycles.each_cycle.Goals as goal

next : (x i n : ℕ) → i < n → x * i + x ≤ x * n
next x i n h = omega (arith, mul-le-mul_left x h)

pub loop-i-init : goal.loop-i-init
loop-i-init c =
    run_at (run_none _ _ _) _ (omega arith)

pub cycle_step-requires : goal.cycle_step-requires
cycle_step-requires c =
    let a = c.args in
    let row = a.row in
    let p = c.requires in
    let o = p.0 in
    let t = p.1 in
    let l = c.loop-i in
    let same : a.r * l.i ≡ row.r * l.i = ap (λ (r : ℕ). r * l.i) p.3 in
    let y = next row.r l.i a.n (omega arith) in (
      omega arith,
      omega arith,
      λ k h.
          let d = turned_from row a.from a.n k l.i t o.r_most (omega arith) (omega arith) in
          let e = p.2.cell k (omega arith) in
          let n = l.invariant.len in
          omega (arith, d.inside, e, n),
    )

pub loop-i-preserved : goal.loop-i-preserved
unfolding cycle_run
loop-i-preserved c =
    let a = c.args in
    let row = a.row in
    let p = c.requires in
    let o = p.0 in
    let l = c.loop-i in
    let w = l.invariant in
    let y = next row.r l.i a.n (omega arith) in
    run_run w _ (row.dst + a.from + row.r * l.i) (row.r * (l.i + 1)) row.r
    (c.cycle_step.ensures
    ∙ ap (λ (r : ℕ). cycle_run a.turn (row.src + row.axis.num * l.i) r (row.dst + a.from + r * l.i) l.s) p.3
    ∙ put_same _ _ row.r _ _ (λ k h.
    turn_is row a.from k l.i _ l.s a.s.now (turned_from row a.from a.n k l.i p.1 o.r_most h (omega arith))
    p.2 h (λ x. run_after w (row.src + x) nan (omega arith))))
    refl (omega arith)

pub returns : goal.returns
unfolding across_run
returns c =
    let a = c.args in run_end c.loop-i.invariant _ (mul-le-mul_left a.row.r (omega arith)) (mul-le-mul_left a.row.r (omega arith))
