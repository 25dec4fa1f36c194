use Rattle.std.proofs.Common.{subst}
use Rattle.image.specs.declared.rectangle.Rectangle.{Rectangle}
use Rattle.colorimetry.specs.Charts.{chart_call, chart_reply, ChartGiven}
use Rattle.ffi.proofs.charts.chroma_chart_reading.Goals as goal

pub returns : goal.returns
returns c =
    let a = c.args in
    record {
      reading = chart_reply c.chart_reading.result;
      given = subst (λ (r : Rectangle). ChartGiven (chart_call a.chart.now r a.w a.h a.rgb.now) (chart_reply c.chart_reading.result)) c.to_rectangle.ensures c.chart_reading.ensures;
      is = c.from_reading.ensures;
    }
