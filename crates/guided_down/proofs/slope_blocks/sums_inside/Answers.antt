use Rattle.laws.specs.Lists.{table}
use Rattle.guided_down.proofs.SlopeBlocks.{sums_are}
use Rattle.guided_down.proofs.slope_blocks.sums_inside.Goals as goal

pub returns : goal.returns
unfolding table
returns c =
    rw (c.load-left.ensures, c.load.ensures, c.load-right.ensures) (sums_are c.args.s.now c.args.src c.args.i c.requires.0)
