-- A loop that writes a run (`Run` of laws), a value a turn, by the tap of its own position. The cells of the tap lie behind all that is
-- written, so that by `run_after` the lerp reads what the call was handed; that they are cells of the row is the tap's own contract.
use Rattle.std.proofs.Common.{◌+◌}
use Rattle.taps.specs.Taps.{tap_by}
use Rattle.linear.specs.Linear.{across_by}
use Rattle.image.specs.Scratch.{cell_at}
use Rattle.laws.proofs.Lists.{Run}
use Rattle.linear.proofs.across.across_taps.Given as goal

abbrev pub invariant-loop-i : goal.invariant-loop-i
invariant-loop-i l = Run l.initial.s l.s (l.row.dst + l.from) l.i (λ k. across_by (tap_by l.row.axis l.row.r l.row.cw (l.from + k)) (cell_at l.initial.s l.row.src))
