use Rattle.std.proofs.Common.{ap, ◌∙◌, List, get_or, Float}
use lib.Ieee.{nan}
use Rattle.laws.proofs.Lists.{table_at}
use Rattle.guided_down.specs.Inner.Slopes.{slope_inside, slope_with}
use Rattle.guided_down.proofs.slope_blocks.slopes_inside.Goals as goal

pub returns : goal.returns
unfolding slope_inside slope_with
returns c =
    let q = c.requires in
    λ k h. ap (λ (v : List Float). get_or v k nan) (c.slopes_by.ensures _ _ _ _ q.2 q.3 c.means_inside-c.ensures c.means_at-yc.ensures) ∙ table_at 8 _ k nan h
