use Rattle.std.proofs.Common.{ap, ◌∙◌, ℕ, arith, get_or}
use Rattle.laws.proofs.Lists.{run_none, front_more, run_after, run_end}
use Rattle.colorimetry.specs.Mixes.{mix_of}
use Rattle.colorimetry.proofs.mix.mix_bytes.Goals as goal

pub loop-i-init : goal.loop-i-init
loop-i-init c = run_none _ _ _

pub loop-i-preserved : goal.loop-i-preserved
loop-i-preserved c =
    let r = c.loop-i.invariant in
    let a = c.args in
    let i = c.loop-i.i in
    front_more r _ (c.mix.ensures ∙ ap (λ (z : ℕ). mix_of a.weight z (get_or a.second.now i 0)) (run_after r i 0 (omega arith)))

pub shape_of-out : goal.shape_of-out
shape_of-out c = c.loop-i.invariant.len

pub returns : goal.returns
returns c = run_end c.loop-i.invariant _ (omega arith) (omega arith)
