use Rattle.std.proofs.Common.{◌≡◌, refl, sym, ◌∙◌, true, arith}
use Rattle.netpbm.specs.Bytes.{past_spaces}
use Rattle.netpbm.specs.Inner.Held.{space_held}
use Rattle.netpbm.proofs.Runs.{space_inside, spaces_more, spaces_end}
use Rattle.netpbm.proofs.scan.skip_spaces.Goals as goal

pub loop-inside-init : goal.loop-inside-init
unfolding past_spaces
loop-inside-init c =
    refl

pub bounds-input-end : goal.bounds-input-end
bounds-input-end c =
    let space : space_held c.args.input.now c.loop-inside.inside c.loop-inside.end ≡ true = sym c.space_at.ensures ∙ c.loop-inside-test.true in
    omega (arith, space_inside _ _ _ space)

pub overflow_add-end : goal.overflow_add-end
overflow_add-end c =
    let space : space_held c.args.input.now c.loop-inside.inside c.loop-inside.end ≡ true = sym c.space_at.ensures ∙ c.loop-inside-test.true in
    omega (arith, space_inside _ _ _ space)

pub loop-inside-smaller : goal.loop-inside-smaller
loop-inside-smaller c =
    let space : space_held c.args.input.now c.loop-inside.inside c.loop-inside.end ≡ true = sym c.space_at.ensures ∙ c.loop-inside-test.true in
    omega (arith, space_inside _ _ _ space)

pub loop-inside-preserved : goal.loop-inside-preserved
loop-inside-preserved c =
    let space : space_held c.args.input.now c.loop-inside.inside c.loop-inside.end ≡ true = sym c.space_at.ensures ∙ c.loop-inside-test.true in
    let h = space in
    rw c.in_comment-inside.ensures (omega (arith, c.loop-inside.invariant, spaces_more _ _ _ h))

pub returns : goal.returns
returns c =
    omega (arith, c.loop-inside.invariant, spaces_end _ _ _ (sym c.space_at.ensures ∙ c.loop-inside-test.false))
