-- By cases of the ratios: each case's row (`across_is`, `down_is`, `both_is` of Ratios) is the definition's sample there. What is left is
-- that near and far rows lie within the plane, for which cell row y / 2 must be one of ch. All of it is said by the accepted tests (Accepted).
use Rattle.std.proofs.Common.{◌∙◌, refl, ◌/◌, arith, lit≤}
use Rattle.laws.proofs.Lists.{put_same}
use Rattle.image.specs.Samples.{seen}
use Rattle.upsample.proofs.Accepted.{output_row, cell_row, cell_rows, cells_all, near_one, near_two, doubled_one, doubled_two}
use Rattle.upsample.proofs.Ratios.{across_is, down_is, both_is}
use Rattle.upsample.proofs.plane.triangular_row.Goals as goal

pub overflow_mul-at : goal.overflow_mul-at
overflow_mul-at c =
    let a = c.args in omega (arith, output_row c.requires.0 a.y c.requires.1)

pub overflow_mul-near : goal.overflow_mul-near
overflow_mul-near c =
    let a = c.args in
    let e = c.requires.0 in omega (arith, cell_row e a.y (near_one e c.if-layout-eq1.true a.y c.requires.1))

pub across_row-requires : goal.across_row-requires
across_row-requires c =
    let a = c.args in
    let e = c.requires.0 in
    let t = c.if-layout-eq1.true in
    let j = near_one e t a.y c.requires.1 in
    (cell_rows e _ refl a.y a.y j j refl refl, doubled_one e t, record { left = lit≤ tt; right = lit≤ tt }, output_row e a.y c.requires.1)

pub returns-then-layout-eq1 : goal.returns-then-layout-eq1
returns-then-layout-eq1 c =
    let a = c.args in
    c.across_row.ensures ∙ put_same _ _ _ _ _ (λ x h. across_is a.layout (seen a.plane) a.y c.if-layout-eq1.true x)

pub overflow_mul-near-2 : goal.overflow_mul-near-2
overflow_mul-near-2 c =
    let a = c.args in
    let e = c.requires.0 in omega (arith, cell_row e (a.y / 2) (near_two e c.if-layout-eq1.false a.y c.requires.1))

pub far-requires : goal.far-requires
far-requires c =
    near_two c.requires.0 c.if-layout-eq1.false c.args.y c.requires.1

pub overflow_mul-far : goal.overflow_mul-far
overflow_mul-far c =
    omega (arith, cell_row c.requires.0 c.far.result c.far.ensures.1)

pub down_row-requires : goal.down_row-requires
down_row-requires c =
    let a = c.args in
    let e = c.requires.0 in
    let j = near_two e c.if-layout-eq1.false a.y c.requires.1 in
    (cells_all e c.if-layout-eq1-2.true _ (cell_rows e _ refl (a.y / 2) c.far.result j c.far.ensures.1 refl refl), c.one_axis_bias-bias.ensures.1, output_row e a.y c.requires.1)

pub returns-then-layout-eq1-2 : goal.returns-then-layout-eq1-2
returns-then-layout-eq1-2 c =
    let a = c.args in
    c.down_row.ensures ∙ put_same _ _ _ _ _ (λ x h. down_is a.layout (seen a.plane) a.y c.if-layout-eq1.false c.if-layout-eq1-2.true _ _ c.far.ensures.0 c.one_axis_bias-bias.ensures.0 x)

pub across_row-requires-2 : goal.across_row-requires-2
across_row-requires-2 c =
    let a = c.args in
    let e = c.requires.0 in
    let j = near_two e c.if-layout-eq1.false a.y c.requires.1 in
    (cell_rows e _ refl (a.y / 2) c.far.result j c.far.ensures.1 refl refl, doubled_two e c.if-layout-eq1-2.false, record { left = lit≤ tt; right = lit≤ tt }, output_row e a.y c.requires.1)

pub returns : goal.returns
returns c =
    let a = c.args in
    c.across_row-2.ensures ∙ put_same _ _ _ _ _ (λ x h. both_is a.layout (seen a.plane) a.y c.if-layout-eq1.false c.if-layout-eq1-2.false _ c.far.ensures.0 x)
