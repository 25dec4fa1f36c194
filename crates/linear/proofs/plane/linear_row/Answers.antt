-- The row is down and then across, as LinearRows has them: `down_is` turns the first call's run into the definition's cells, `row_is` the second's
-- into `linear_row`. Both rows of the tap end within the plane by `tap_rows`, cells and row within scratch by `cells_room`.
use Rattle.std.proofs.Common.{ap, ◌∙◌, arith}
use Rattle.image.specs.Samples.{Plane, seen}
use Rattle.linear.specs.Inner.AcrossRows.{across_run}
use Rattle.linear.proofs.LinearRows.{tap_rows, cells_room, row_fits, down_is, row_is, row_of}
use Rattle.linear.proofs.plane.linear_row.Goals as goal

pub overflow_mul-a : goal.overflow_mul-a
overflow_mul-a c =
    let h = tap_rows _ _ _ c.requires.ready _ c.tap_at-t.ensures.i0_inside in omega arith

pub overflow_mul-b : goal.overflow_mul-b
overflow_mul-b c =
    let h = tap_rows _ _ _ c.requires.ready _ c.tap_at-t.ensures.i1_inside in omega arith

pub down_row-requires : goal.down_row-requires
down_row-requires c =
    let ready = c.requires.ready in
    let t = c.tap_at-t.ensures in
    let h = tap_rows _ _ _ ready _ t.i0_inside in
    let k = tap_rows _ _ _ ready _ t.i1_inside in
    let room = cells_room _ _ _ ready in
    omega arith

pub across_row-requires : goal.across_row-requires
across_row-requires c =
    let room = cells_room _ _ _ c.requires.ready in
    row_fits _ _ _ c.requires.ready.shaped c.requires.y_lt_h.1 (omega arith)

pub returns : goal.returns
returns c =
    let a = c.args in
    let l = a.layout in
    let p : Plane = seen a.plane in
    let t = c.tap_at-t in
    let ready = c.requires.ready in
    c.across_row.ensures ∙ ap (across_run (row_of l a.dst) 0 l.w) (c.down_row.ensures ∙ down_is l p a.y t.result a.s.now t.ensures.is) ∙ row_is l p a.dst a.y a.s.now ready.shaped (cells_room _ _ _ ready)
