-- The part that is overwritten has N places, at + N - at as the range counts them.
use Rattle.std.proofs.Common.{◌≡◌, ◌+◌, ◌-◌, arith, length, rules}
use lib.Ieee.{nan}
use Rattle.lanes.proofs.Overwritten.{overwritten}
use Rattle.lanes.proofs.put_block.Goals as goal

pub returns : goal.returns
returns g c =
    let a = c.args in
    let e : a.at + g.row.N - a.at ≡ g.row.N = omega arith in
    let x = c.copy_from_slice.ensures.after in
    let l : length a.block ≡ g.row.N = search rules in
    rw (e, x) (overwritten a.s.now a.block a.at g.row.N nan l c.requires)
