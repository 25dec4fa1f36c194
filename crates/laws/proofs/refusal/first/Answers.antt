-- A test that applies is the answer of what is left of the list, one that doesn't is passed over.
use Rattle.std.proofs.Common.{◌∙◌, false, sym, ap, arith}
use Rattle.std.proofs.lemmas.List.{at_drop_more, drop_all}
use Rattle.laws.specs.Refusals.{first}
use Rattle.laws.specs.declared.refusal.Refusal.TheVariants.{BadState}
use Rattle.laws.proofs.Refusals.{refused_here, passed_over}
use Rattle.laws.proofs.refusal.first.Goals as goal

pub returns-then-applies : goal.returns-then-applies
returns-then-applies g c =
    sym (c.loop-applies.invariant
    ∙ at_drop_more first c.args.tests c.loop-applies.applies-index (false, BadState) (let z = c.well_formed in omega arith)
    ∙ refused_here _ _ _ c.if-applies.true)

pub loop-applies-preserved : goal.loop-applies-preserved
loop-applies-preserved g c =
    c.loop-applies.invariant
    ∙ at_drop_more first c.args.tests c.loop-applies.applies-index (false, BadState) (let z = c.well_formed in omega arith)
    ∙ passed_over _ _ _ c.if-applies.false

pub returns : goal.returns
unfolding first
returns g c = sym (c.loop-applies.invariant ∙ ap first (drop_all c.loop-applies.applies-index c.args.tests (let z = c.well_formed in omega arith)))
