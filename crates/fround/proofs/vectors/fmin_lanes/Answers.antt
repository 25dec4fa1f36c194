use Rattle.fround.proofs.Picked.{smaller}
use Rattle.fround.proofs.vectors.fmin_lanes.Goals as goal

pub returns : goal.returns
returns g c =
    smaller c.args.a c.args.b
