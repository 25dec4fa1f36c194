use Rattle.std.proofs.Common.{◌+◌, ◌*◌, ap, ◌∙◌, List, [], get_or, arith, Float}
use Rattle.std.specs.Float.{nan}
use Rattle.laws.specs.Lists.{put}
use Rattle.guided_down.proofs.Pairs.{pair_none, pair_end}
use Rattle.guided_down.proofs.Statistics.{pair_eights_more}
use Rattle.guided_down.specs.Inner.Slopes.{pairs_inside}
use Rattle.guided_down.proofs.slope_pairs.pair_eights.Goals as goal

pub loop-n-init : goal.loop-n-init
loop-n-init c =
    pair_none _ _ _ _ _

pub loop-n-preserved : goal.loop-n-preserved
loop-n-preserved c =
    let a = c.args in
    let i = a.from + 8 * c.loop-n.n in
    let v = c.pair_eight.result in
    pair_eights_more a.t a.u a.eps a.a a.b a.from c.loop-n.n _ c.requires.1 c.loop-n.invariant _ (get_or v 0 []) (get_or v 1 []) c.pair_eight.ensures
    (c.put_block-in-loop-n.ensures ∙ ap (λ (s : List Float). put s (a.b + i) 8 (λ k. get_or (get_or v 1 []) k nan)) c.put_block.ensures) (omega arith)

pub returns : goal.returns
unfolding pairs_inside
returns c =
    pair_end c.loop-n.invariant _ (omega arith) (omega arith)
