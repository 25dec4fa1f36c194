-- The two returns are the cases of `spot_of`: as many cells as outputs, and else as the axis is sited. `tap_given` adds that the tap's cells are
-- among len.
use Rattle.std.proofs.Common.{arith, eq-eqb, ne_eqb}
use Rattle.taps.specs.Taps.{tap_by, spot_of}
use Rattle.taps.proofs.Spots.{tap_given}
use Rattle.taps.proofs.positions.tap_at.Goals as goal

pub returns-then-axis-r : goal.returns-then-axis-r
unfolding tap_by spot_of
returns-then-axis-r c =
    let a = c.args in tap_given a.axis a.r a.len a.o _ (omega arith) c.requires.5 (rw (eq-eqb _ _ c.if-axis-r.true) c.on_cell.ensures)

pub returns : goal.returns
unfolding tap_by spot_of
returns c =
    let a = c.args in tap_given a.axis a.r a.len a.o _ (omega arith) c.requires.5 (rw (ne_eqb a.axis.num a.r c.if-axis-r.false) c.sited_at.ensures)
