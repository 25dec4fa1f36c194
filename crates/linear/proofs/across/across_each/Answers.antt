use Rattle.std.proofs.Common.{◌≡◌, refl, ap, ◌∙◌, ℕ, ◌+◌, ◌*◌, ◌≤◌, ◌<◌, arith, mul-le-mul_right}
use lib.Ieee.{nan}
use Rattle.laws.proofs.Lists.{run_none, run_at, run_run, run_end, run_after, put_same}
use Rattle.linear.specs.Inner.AcrossRows.{parts_in, between_run}
use Rattle.linear.proofs.AcrossRuns.{between_more}
use Rattle.linear.proofs.across.across_each.Goals as goal

turn : (r i n : ℕ) → i < n → r * i + r ≤ r * n
turn r i n h = let m : (i + 1) * r ≤ n * r = mul-le-mul_right r (omega arith) in omega arith

pub loop-i-init : goal.loop-i-init
loop-i-init c =
    run_at (run_none _ _ _) _ (omega arith)

pub loop-i-preserved : goal.loop-i-preserved
loop-i-preserved c =
    let a = c.args in
    let i = c.loop-i.i in
    let w = c.loop-i.invariant in
    let room = turn a.r i a.n (omega arith) in
    let left = run_after w (a.src + i) nan (omega arith) in
    let right = run_after w (a.src + i + 1) nan (omega arith) in
    run_run w _ (a.dst + a.r * i) (a.r * (i + 1)) a.r (c.put_between.ensures ∙ put_same _ _ _ _ _ (between_more (parts_in a.parts) a.r a.s.now c.loop-i.s a.src i left right)) refl (omega arith)

pub returns : goal.returns
unfolding between_run
returns c =
    let a = c.args in let e : c.loop-i.i ≡ a.n = omega arith in run_end (run_at c.loop-i.invariant (a.r * a.n) (ap (λ (k : ℕ). a.r * k) e)) _ (omega arith) (omega arith)
