-- Each return is a law of Readings; the bounds of the chart are `chart_shades`.
use Rattle.std.proofs.Common.{◌∙◌, ◌<◌, sym, refl, arith}
use Rattle.std.proofs.lemmas.Result.{err_from_is_err_and}
use Rattle.colorimetry.specs.Charts.{chart_call}
use Rattle.colorimetry.proofs.Readings.{chart_shades, chart_refused, chart_nothing, chart_given}
use Rattle.colorimetry.proofs.shade.chart_reading.Goals as goal

pub returns-then-bad_chart : goal.returns-then-bad_chart
returns-then-bad_chart c =
    let a = c.args in
    chart_refused (chart_call a.chart.now a.rectangle a.w a.h a.rgb.now) (sym c.bad_chart.ensures ∙ c.if-bad_chart.true)

pub returns-in_err-p : goal.returns-in_err-p
returns-in_err-p c =
    let a = c.args in
    let p = err_from_is_err_and c.from_residual.result c.from_residual.ensures.1 in
    rw (p.1, p.2) (chart_nothing (chart_call a.chart.now a.rectangle a.w a.h a.rgb.now) _ c.in_err-p.ensures (sym c.bad_chart.ensures ∙ c.if-bad_chart.false) refl)

pub returns-then-p-eq0 : goal.returns-then-p-eq0
returns-then-p-eq0 c =
    let a = c.args in
    chart_nothing (chart_call a.chart.now a.rectangle a.w a.h a.rgb.now) _ c.in_ok-p.ensures (sym c.bad_chart.ensures ∙ c.if-bad_chart.false) c.if-p-eq0.true

pub nearest_shade-shade-requires : goal.nearest_shade-shade-requires
nearest_shade-shade-requires c = let s = chart_shades _ (sym c.bad_chart.ensures ∙ c.if-bad_chart.false) in (omega (arith, s.0), s.1, s.2)

pub nearest_mix-mix-requires : goal.nearest_mix-mix-requires
nearest_mix-mix-requires c = chart_shades _ (sym c.bad_chart.ensures ∙ c.if-bad_chart.false)

pub returns : goal.returns
returns c =
    let a = c.args in
    let z : 0 < c.in_ok-p.p.pixels = omega (arith, c.if-p-eq0.false) in
    chart_given (chart_call a.chart.now a.rectangle a.w a.h a.rgb.now) _ _ _ _ _ c.in_ok-p.ensures (sym c.bad_chart.ensures ∙ c.if-bad_chart.false) z c.nearest_shade-shade.ensures c.nearest_mix-mix.ensures
