-- A loop that writes r values a turn: `turn_is` says that a turn's are those of the taps, which `turned` has num cells further for each turn before.
-- Products with r and num grow with the turn, and `next` bounds them for omega.
use Rattle.std.proofs.Common.{◌+◌, ◌*◌}
use Rattle.laws.proofs.Lists.{Run}
use Rattle.image.specs.Scratch.{cell_at}
use Rattle.taps.specs.Taps.{tap_by}
use Rattle.linear.specs.Linear.{across_by}
use Rattle.linear.proofs.cycles.each_cycle.Given as goal

abbrev pub invariant-loop-i : goal.invariant-loop-i
invariant-loop-i l = Run l.initial.s l.s (l.row.dst + l.from) (l.row.r * l.i) (λ k. across_by (tap_by l.row.axis l.row.r l.row.cw (l.from + k)) (cell_at l.initial.s l.row.src))
