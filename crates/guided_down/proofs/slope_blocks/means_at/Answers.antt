use Rattle.std.proofs.Common.{◌∙◌}
use Rattle.guided_down.proofs.SlopeBlocks.{means_are}
use Rattle.guided_down.proofs.slope_blocks.means_at.Goals as goal

pub returns : goal.returns
returns c =
    c.means.ensures _ _ _ c.load.ensures c.load-2.ensures c.load-3.ensures ∙ means_are c.args.s.now c.args.t c.args.i
