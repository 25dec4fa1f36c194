-- An accepted call passed all its tests, so that `rowed` gives all that the steps require; the contract is then that of `row_steps` and of
-- the two copies.
use Rattle.std.proofs.Common.{◌∙◌, sym, ap, arith}
use Rattle.image.specs.declared.layout.Layout.{Layout}
use Rattle.image.specs.Picture.{planes_seen}
use Rattle.guided.specs.Scratch.{finished_at}
use Rattle.guided.specs.Calls.{RowCall, row_call, reader_layout, row_scratch, row_out}
use Rattle.guided.proofs.Acceptance.{RowHanded, fine}
use Rattle.reader.proofs.Rowed.{rowed, lent, room_after}
use Rattle.reader.proofs.rows.row.Goals as goal

pub row_steps-requires : goal.row_steps-requires
row_steps-requires c =
    let h = rowed _ _ c.row_answer.ensures c.in_ok-row_answer.was in
    rw c.reader_layout-layout.ensures (record { lent = lent _ _ h.state h.planes; row_lt_h = (h.inside, h.room) })

pub copy_rows-requires : goal.copy_rows-requires
unfolding row_scratch
copy_rows-requires c =
    let a = c.args in
    let k : RowCall = row_call a.row (planes_seen a.planes) a.reader.now a.s.now a.out_cb.now a.out_cr.now in
    let h : RowHanded k = rowed _ _ c.row_answer.ensures c.in_ok-row_answer.was in
    let m = room_after k _ h.room (rw c.reader_layout-layout.ensures at c.row_steps.ensures) in
    let w = ap (λ (l : Layout). l.w) c.reader_layout-layout.ensures in
    (omega arith, omega arith, omega arith)

pub after_row-requires : goal.after_row-requires
unfolding reader_layout
after_row-requires c =
    let h = rowed _ _ c.row_answer.ensures c.in_ok-row_answer.was in
    record { sound = (fine _ h.state).sound; y_lt_h = h.inside }

pub returns : goal.returns
unfolding row_out finished_at reader_layout row_scratch
returns c =
    let made = rw c.reader_layout-layout.ensures at c.row_steps.ensures in
    let w = ap (λ (l : Layout). l.w) c.reader_layout-layout.ensures in
    record {
      answers = sym c.in_ok-row_answer.was ∙ c.row_answer.ensures;
      leaves = c.after_row.ensures;
      scratches = made;
      cbs = rw (w, made) at c.copy_rows.ensures.0;
      crs = rw (w, made) at c.copy_rows.ensures.1;
    }
