-- A loop that writes a run (`Run` of laws), two values a turn (`run_two`): cell k + 1 gives outputs 2 + 2k and 2 + 2k + 1.
-- That they are the row's is `pair_left` and `pair_right` of Axis, over the sums that `sum` promises.
use Rattle.std.proofs.Common.{◌+◌, ◌*◌}
use Rattle.laws.proofs.Lists.{Run}
use Rattle.upsample.specs.Inner.Pairs.{sums, across_row}
use Rattle.upsample.proofs.across.inner_cells.Given as goal

abbrev pub invariant-loop-k : goal.invariant-loop-k
invariant-loop-k g l = Run l.initial.out l.out l.at (2 * l.k) (λ x. across_row l.bias l.cw (sums g.S.Sum.BYTES l.rows) (2 + x))
