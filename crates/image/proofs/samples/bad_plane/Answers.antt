use Rattle.std.proofs.Common.{sym, ap, ◌∙◌, ℕ, ◌-◌, ◌*◌, arith, ltb, ltb-false}
use Rattle.image.proofs.Holding.{stride_below, first_short, last_short}
use Rattle.image.proofs.samples.bad_plane.Goals as goal

pub returns-then-product_passes : goal.returns-then-product_passes
returns-then-product_passes c =
    let a = c.args in stride_below a.sample_bytes a.w a.h a.stride a.len (sym c.product_passes.ensures ∙ c.if-product_passes.true)

pub overflow_mul-row : goal.overflow_mul-row
overflow_mul-row c =
    let a = c.args in omega (arith, ltb-false a.stride (a.w * a.sample_bytes) (sym c.product_passes.ensures ∙ c.if-product_passes.false))

pub returns-then-len-row : goal.returns-then-len-row
returns-then-len-row c =
    let a = c.args in first_short a.sample_bytes a.w a.h a.stride a.len (sym c.product_passes.ensures ∙ c.if-product_passes.false) c.if-len-row.true

pub returns : goal.returns
returns c =
    let a = c.args in
    c.product_passes-2.ensures
    ∙ ap (λ (n : ℕ). ltb (a.len - a.w * a.sample_bytes) (n * a.stride)) c.rows_before.ensures
    ∙ last_short a.sample_bytes a.w a.h a.stride a.len (sym c.product_passes.ensures ∙ c.if-product_passes.false) (omega arith)
