-- A loop that writes a run (`Run` of laws): the invariant is the run so far, and each turn adds a value by `run_more`.
-- The one step of its own: maxval is below the grid's limit 4,194,304, so that rounding by the grid limits to maxval itself.
use Rattle.fround.specs.Rounding.{round_clamped}
use Rattle.image.specs.Scratch.{cell_at}
use Rattle.laws.proofs.Lists.{Run}
use Rattle.linear.proofs.rounded.store_each.Given as goal

abbrev pub invariant-loop-i : goal.invariant-loop-i
invariant-loop-i l = Run l.initial.out l.out l.at l.i (λ k. round_clamped l.maxval (cell_at l.s l.src k))
