use Rattle.std.proofs.Common.{arith}
use Rattle.guided_pixels.proofs.RowSteps.{row_cb, row_both}
use Rattle.guided_pixels.proofs.row.guided_row.Goals as goal

pub returns-in_default : goal.returns-in_default
returns-in_default c =
    λ cb cr. rw c.in_default.is (row_cb _ _ _ (omega arith) _ _ _ _ c.down_row.ensures c.detail_row.ensures c.component.ensures)

pub returns : goal.returns
returns c =
    λ cb cr. rw c.in-Both.is
    (row_both _ _ _ (omega arith) _ _ _ _ c.down_row.ensures c.detail_row.ensures c.component.ensures _ c.component-2.ensures)
