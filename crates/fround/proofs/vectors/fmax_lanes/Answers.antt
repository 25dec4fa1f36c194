use Rattle.fround.proofs.Picked.{larger}
use Rattle.fround.proofs.vectors.fmax_lanes.Goals as goal

pub returns : goal.returns
returns g c =
    larger c.args.a c.args.b
