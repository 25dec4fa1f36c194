-- The table is its rule's own list by one computation, which `red_rule` carries to each entry.
use Rattle.std.proofs.Common.{◌<◌, arith}
use Rattle.laws.specs.Differences.{floor_div}
use Rattle.kernels.specs.Kernels.{fixed_red}
use Rattle.kernels.proofs.TableRules.{red_rule}
use Rattle.kernels.proofs.tables.red_entry.Goals as goal

pub returns : goal.returns
unfolding fixed_red floor_div
returns c =
    let h : c.args.c < 256 = omega arith in
    (h, rw c.from.ensures (red_rule c.args.c h))
