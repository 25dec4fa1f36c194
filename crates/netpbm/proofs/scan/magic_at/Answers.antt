use Rattle.std.proofs.Common.{◌∙◌}
use Rattle.netpbm.proofs.Runs.{magic_here}
use Rattle.netpbm.proofs.scan.magic_at.Goals as goal

pub returns-then-at-input : goal.returns-then-at-input
returns-then-at-input c = c.starts_with.ensures.value ∙ magic_here c.args.input.now c.args.at
