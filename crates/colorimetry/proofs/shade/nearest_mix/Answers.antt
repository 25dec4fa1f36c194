use Rattle.std.proofs.Common.{rules}
use Rattle.colorimetry.specs.Charts.{candidate_off}
use Rattle.colorimetry.proofs.shade.nearest_mix.Goals as goal

pub returns : goal.returns
returns c = c.first_nearest.ensures (candidate_off c.args.chart.now c.args.colour) (λ i x h p. search rules)
