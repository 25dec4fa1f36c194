-- The contract is the two calls' contracts, one after the other. The hard step is room: row·w + w lies within w·h (`row_fits`), which is what
-- out holds, and the finished row lies at the front of scratch (`front_fits`).
use Rattle.std.proofs.Common.{ap, ◌∙◌, ◌+◌, ◌*◌, ◌≤◌, ◌<◌, ℕ, mul_comm, arith, length}
use Rattle.laws.proofs.Rows.{row_fits}
use Rattle.image.proofs.Layouts.{area}
use Rattle.guided.proofs.Places.{front_fits}
use Rattle.guided_rows.proofs.GuidedRows.{length_step}
use Rattle.guided_plane.proofs.plane.plane_row.Goals as goal

inside : (row w h n : ℕ) → row < h → w * h ≤ n → row * w + w ≤ n
inside row w h n a b = omega (arith, row_fits row h w a, mul_comm w h)

pub guided_step-requires : goal.guided_step-requires
guided_step-requires c =
    let p = c.requires in
    record { lent = p.lent; n_bound = (omega arith, p.row_lt_h.1) }

pub overflow_mul-row : goal.overflow_mul-row
overflow_mul-row c = omega (arith, inside _ _ _ _ c.requires.row_lt_h.0 c.requires.row_lt_h.2, area c.requires.lent.sound)

pub store_row-requires : goal.store_row-requires
store_row-requires c =
    let h = inside _ _ _ _ c.requires.row_lt_h.0 c.requires.row_lt_h.2 in
    let o = c.requires.lent.sound in
    let f = front_fits c.args.layout in
    let e = ap length c.guided_step.ensures ∙ length_step _ _ _ _ _ in
    (o.maxval_most, omega arith, omega arith)

pub returns : goal.returns
returns c = record { s_after = c.guided_step.ensures; out_after = rw c.guided_step.ensures at c.store_row.ensures }
