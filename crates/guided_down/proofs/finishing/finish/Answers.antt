use Rattle.std.proofs.Common.{arith}
use Rattle.guided_down.proofs.DownSteps.{finish_cb, finish_both}
use Rattle.guided_down.proofs.finishing.finish.Goals as goal

pub returns-in_default : goal.returns-in_default
returns-in_default c =
    λ y. rw c.in_default.is (finish_cb _ _ _ _ _ _ (omega arith) c.slope_row.ensures c.extreme_rows.ensures)

pub extreme_rows-requires-3 : goal.extreme_rows-requires-3
extreme_rows-requires-3 c =
    (c.requires.chroma_cells.1 c.in-Both.is, omega arith, omega arith)

pub returns : goal.returns
returns c =
    λ y. rw c.in-Both.is (finish_both _ _ _ _ _ _ _ (omega arith) c.slope_rows.ensures c.extreme_rows-2.ensures c.extreme_rows-3.ensures)
