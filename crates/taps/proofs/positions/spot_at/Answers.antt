use Rattle.taps.specs.Taps.{spot_at}
use Rattle.std.proofs.Common.{le-leb, ◌/◌, ◌-◌, refl}
use borrow.Author.Tests.{lt-leb}
use Rattle.taps.proofs.positions.spot_at.Goals as goal

pub returns-then-len-cell : goal.returns-then-len-cell
unfolding spot_at
returns-then-len-cell c =
    let a = c.args in
    rw (le-leb (a.len - 1) (a.m / a.d) c.if-len-cell.true) c.on_cell.ensures

pub returns : goal.returns
unfolding spot_at
returns c =
    let a = c.args in
    rw (lt-leb (a.len - 1) (a.m / a.d) c.if-len-cell.false, c.fraction.ensures) refl
