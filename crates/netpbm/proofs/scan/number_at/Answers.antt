use Rattle.std.proofs.Common.{◌≡◌, refl, sym, ◌∙◌, true, arith}
use Rattle.netpbm.specs.Bytes.{has_digit}
use Rattle.netpbm.proofs.Runs.{digit_inside}
use Rattle.netpbm.proofs.Numbers.{counting_none, counting_more, counting_end}
use Rattle.netpbm.proofs.scan.number_at.Goals as goal

pub loop-value-init : goal.loop-value-init
loop-value-init c =
    counting_none _ _

pub digit_value-requires : goal.digit_value-requires
digit_value-requires c =
    let digit : has_digit c.args.input.now c.loop-value.end ≡ true = sym c.digit_at.ensures ∙ c.loop-value-test.true in
    digit

pub overflow_add-end : goal.overflow_add-end
overflow_add-end c =
    let digit : has_digit c.args.input.now c.loop-value.end ≡ true = sym c.digit_at.ensures ∙ c.loop-value-test.true in
    omega (arith, digit_inside _ _ digit)

pub loop-value-smaller : goal.loop-value-smaller
loop-value-smaller c =
    let digit : has_digit c.args.input.now c.loop-value.end ≡ true = sym c.digit_at.ensures ∙ c.loop-value-test.true in
    omega (arith, digit_inside _ _ digit)

pub loop-value-preserved : goal.loop-value-preserved
loop-value-preserved c =
    let digit : has_digit c.args.input.now c.loop-value.end ≡ true = sym c.digit_at.ensures ∙ c.loop-value-test.true in
    let d = c.digit_value.ensures in
    counting_more c.loop-value.invariant digit _ _ d.0 c.min-value.ensures

pub returns : goal.returns
returns c =
    counting_end c.loop-value.invariant (sym c.digit_at.ensures ∙ c.loop-value-test.false) _ refl refl
