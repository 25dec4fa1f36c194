-- After b blocks out is out₀ with that many values; `block_more` is a turn.
use Rattle.std.proofs.Common.{◌*◌}
use Rattle.fround.specs.Rounding.{round_clamped}
use Rattle.image.specs.Scratch.{cell_at}
use Rattle.laws.proofs.Lists.{Run}
use Rattle.linear.proofs.rounded.store_row.Given as goal

abbrev pub invariant-loop-b : goal.invariant-loop-b
invariant-loop-b l = Run l.initial.out l.out l.at (l.b * 16) (λ k. round_clamped l.maxval (cell_at l.s l.src k))
