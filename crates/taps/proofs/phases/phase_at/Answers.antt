use Rattle.taps.specs.Taps.{phase_at}
use lib.Ieee.{of_bits, of_int}
use Rattle.std.proofs.Common.{le-leb}
use borrow.Author.Tests.{lt-leb}
use Rattle.taps.proofs.phases.phase_at.Goals as goal

pub returns-then-r-k : goal.returns-then-r-k
unfolding phase_at of_bits of_int
returns-then-r-k c =
    let a = c.args in rw (le-leb a.r a.k c.if-r-k.true) c.to_right.ensures

pub returns : goal.returns
unfolding phase_at
returns c =
    let a = c.args in rw (lt-leb a.r a.k c.if-r-k.false) c.phase_of.ensures
