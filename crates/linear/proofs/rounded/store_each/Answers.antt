use Rattle.std.proofs.Common.{◌≡◌, ap, ◌∙◌, ℕ, min, arith}
use Rattle.fround.specs.Rounding.{round_clamped}
use Rattle.image.specs.Scratch.{cell_at}
use Rattle.laws.proofs.Lists.{run_more}
use Rattle.linear.proofs.rounded.store_each.Goals as goal

pub loop-i-preserved : goal.loop-i-preserved
loop-i-preserved c =
    let a = c.args in
    let l = c.loop-i in
    let e : min a.maxval 4194304 ≡ a.maxval = omega arith in
    run_more l.invariant _ (c.round_clamped_by_grid.ensures.is ∙ ap (λ (k : ℕ). round_clamped k (cell_at a.s.now a.src l.i)) e)
