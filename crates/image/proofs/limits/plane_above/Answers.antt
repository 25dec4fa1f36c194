use Rattle.std.proofs.Common.{refl, sym, ◌∙◌, arith}
use Rattle.image.specs.Samples.{seen}
use Rattle.image.specs.Limits.{any_of}
use Rattle.image.proofs.Holding.{short_holds, row_inside}
use Rattle.image.proofs.Any.{above_none, rows_found, rows_none, rows_more}
use Rattle.image.proofs.limits.plane_above.Goals as goal

pub loop-y-init : goal.loop-y-init
unfolding any_of
loop-y-init c = refl

pub overflow_mul-y : goal.overflow_mul-y
overflow_mul-y c = omega (arith, row_inside (short_holds _ _ _ _ c.requires.2) _ c.loop-y-test.true)

pub row_above-requires : goal.row_above-requires
row_above-requires c = (c.requires.0, c.requires.1, row_inside (short_holds _ _ _ _ c.requires.2) _ c.loop-y-test.true)

pub returns-then-row_above : goal.returns-then-row_above
returns-then-row_above c = rows_found _ _ _ _ _ c.loop-y-test.true (sym c.row_above.ensures ∙ c.if-row_above.true)

pub loop-y-preserved : goal.loop-y-preserved
loop-y-preserved c =
    let a = c.args in
    rows_more a.layout a.w a.h (seen a.plane) _ c.loop-y.invariant (sym c.row_above.ensures ∙ c.if-row_above.false)

pub returns : goal.returns
returns c = rows_none _ _ _ _ _ (omega arith) c.loop-y.invariant

pub returns-then-most-layout : goal.returns-then-most-layout
returns-then-most-layout c = sym (above_none _ _ _ _ c.args.plane.fit (rw (sym c.most.ensures) c.if-most-layout.true))
