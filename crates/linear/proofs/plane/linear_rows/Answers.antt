use Rattle.std.proofs.Common.{ap, ◌∙◌, ◌*◌, Float, List, mul_comm, arith, length}
use Rattle.laws.proofs.Lists.{rows_more}
use Rattle.image.specs.Samples.{Plane, seen}
use Rattle.linear.specs.Inner.Stores.{store_run}
use Rattle.linear.proofs.LinearRows.{ready_on, front_room, scratch_more, length_row, stored_is}
use Rattle.laws.proofs.Rows.{row_fits}
use Rattle.linear.proofs.plane.linear_rows.Goals as goal

pub store_row-requires : goal.store_row-requires
store_row-requires c =
    let a = c.args in
    let l = c.loop-y in
    let room = front_room (ready_on c.requires.ready l.invariant.1.len) in
    let e = ap length c.linear_row.ensures ∙ length_row _ _ _ _ _ in
    omega (arith, row_fits l.y a.layout.h a.layout.w (omega arith), mul_comm a.layout.w a.layout.h, l.invariant.0.len)

pub loop-y-preserved : goal.loop-y-preserved
loop-y-preserved c =
    let a = c.args in
    let p : Plane = seen a.plane in
    let l = c.loop-y in
    let row = c.linear_row in
    let room = front_room (ready_on c.requires.ready l.invariant.1.len) in (
      rows_more l.invariant.0 _
          (c.store_row.ensures
          ∙ ap (λ (z : List Float). store_run z 0 a.layout.w a.layout.maxval (l.y * a.layout.w) l.out) row.ensures
          ∙ stored_is a.layout p l.y (l.y * a.layout.w) l.s l.out room),
      scratch_more l.invariant.1 _ row.ensures,
    )
