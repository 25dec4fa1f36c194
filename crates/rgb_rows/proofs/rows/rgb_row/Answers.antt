-- An accepted call passed all its tests, so that `rowed` gives all that the steps and the colour require; the contract is then that of
-- `row_steps` and of `colour_row`.
use Rattle.std.proofs.Common.{◌∙◌, sym, arith}
use Rattle.image.proofs.Layouts.{sound_shaped}
use Rattle.image.specs.Picture.{planes_seen}
use Rattle.guided.specs.Scratch.{finished_at}
use Rattle.guided.specs.Calls.{reader_layout, row_scratch}
use Rattle.guided.proofs.Acceptance.{fine}
use Rattle.colour_rows.specs.Inner.Colours.{ranged_row, ranged_pixel}
use Rattle.rgb_rows.specs.RgbRows.{RgbRowCall, rgb_row_call, side_of, row_of, side_colour}
use Rattle.reader.proofs.Rowed.{lent, room_after}
use Rattle.rgb_rows.proofs.Handed.{rowed}
use Rattle.rgb_rows.proofs.rows.rgb_row.Goals as goal

pub row_steps-requires : goal.row_steps-requires
row_steps-requires c =
    let h = rowed _ _ c.rgb_row_answer.ensures c.in_ok-rgb_row_answer.was in
    rw c.reader_layout-layout.ensures (record { lent = lent _ _ h.state h.planes; row_lt_h = (h.inside, h.room) })

pub invariant_of-lent : goal.invariant_of-lent
unfolding row_scratch row_of
invariant_of-lent c =
    let a = c.args in
    let k : RgbRowCall = rgb_row_call a.row (side_of a.reader.now (planes_seen a.planes) a.s.now) a.out.now in
    let h = rowed k _ c.rgb_row_answer.ensures c.in_ok-rgb_row_answer.was in
    let m = room_after (row_of k.side k.y) _ h.room (rw c.reader_layout-layout.ensures at c.row_steps.ensures) in
    let l = lent _ _ h.state h.planes in
    rw c.reader_layout-layout.ensures (record { luma = record { shaped = sound_shaped l.sound; plane = l.luma; inside = h.inside }; chroma = omega (arith, m) })

pub colour_row-requires : goal.colour_row-requires
colour_row-requires c =
    let h = rowed _ _ c.rgb_row_answer.ensures c.in_ok-rgb_row_answer.was in
    rw c.reader_layout-layout.ensures (omega arith, omega arith, omega (arith, h.output))

pub after_row-requires : goal.after_row-requires
unfolding reader_layout
after_row-requires c =
    let h = rowed _ _ c.rgb_row_answer.ensures c.in_ok-rgb_row_answer.was in
    record { sound = (fine _ h.state).sound; y_lt_h = h.inside }

pub returns : goal.returns
unfolding ranged_row ranged_pixel side_colour finished_at reader_layout row_scratch row_of
returns c =
    let made = rw c.reader_layout-layout.ensures at c.row_steps.ensures in
    record {
      answers = sym c.in_ok-rgb_row_answer.was ∙ c.rgb_row_answer.ensures;
      leaves = c.after_row.ensures;
      scratches = made;
      gives = rw (c.colour_row.ensures, c.reader_layout-layout.ensures, made);
    }
