use Rattle.guided_down.specs.Inner.Slopes.{mean_inside}
use Rattle.guided_down.proofs.slope_blocks.means_inside.Goals as goal

pub returns : goal.returns
unfolding mean_inside
returns c =
    c.means.ensures _ _ _ c.sums_inside.ensures c.sums_inside-2.ensures c.sums_inside-3.ensures
