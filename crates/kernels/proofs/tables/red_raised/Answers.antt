-- The table is its rule's own list by computation, and an entry of that list is raised to a natural number.
use Rattle.std.proofs.Common.{◌<◌, arith}
use Rattle.laws.specs.Differences.{floor_div}
use Rattle.kernels.specs.Kernels.{fixed_red}
use Rattle.kernels.proofs.TableRules.{entry_listed, red_lifts}
use Rattle.kernels.proofs.tables.red_raised.Goals as goal

pub overflow_add-result : goal.overflow_add-result
unfolding fixed_red floor_div
overflow_add-result c =
    let h : c.args.c < 256 = omega arith in
    rw c.from.ensures (red_lifts c.args.c h (entry_listed fixed_red c.args.c h)).fits

pub overflow_cast-result : goal.overflow_cast-result
unfolding fixed_red floor_div
overflow_cast-result c =
    let h : c.args.c < 256 = omega arith in
    let l = red_lifts c.args.c h (entry_listed fixed_red c.args.c h) in
    rw c.from.ensures (l.over, omega (arith, l.is, l.small))

pub returns : goal.returns
unfolding fixed_red floor_div
returns c =
    let h : c.args.c < 256 = omega arith in
    rw c.from.ensures (red_lifts c.args.c h (entry_listed fixed_red c.args.c h)).is
