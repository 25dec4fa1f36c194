-- The table is its rule's own list by one computation, which `green_cr_rule` carries to each entry.
use Rattle.std.proofs.Common.{◌<◌, arith}
use Rattle.kernels.specs.Kernels.{fixed_green_cr}
use Rattle.kernels.proofs.TableRules.{green_cr_rule}
use Rattle.kernels.proofs.tables.green_cr_entry.Goals as goal

pub returns : goal.returns
unfolding fixed_green_cr
returns c =
    let h : c.args.c < 256 = omega arith in
    (h, rw c.from.ensures (green_cr_rule c.args.c h))
