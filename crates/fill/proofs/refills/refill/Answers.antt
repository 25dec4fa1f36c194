-- An accepted call passed all its tests, and the rows from `near_first` on and before `near_end` are those near the rectangle (`near_rows`).
use Rattle.std.proofs.Common.{◌≡◌, ◌∙◌, sym, Ok}
use Rattle.laws.specs.Refusals.{Answer, first}
use Rattle.fill.specs.Refill.{RefillCall, refill_tests}
use Rattle.fill.proofs.Taken.{LentTaken, taken}
use Rattle.fill.proofs.Near.{near_order, near_rows}
use Rattle.fill.proofs.refills.refill.Goals as goal

relied : (k : RefillCall) (a : Answer) → a ≡ first (refill_tests k) → a ≡ Ok tt → LentTaken k
relied k a e h = (taken k (sym e ∙ h)).rest

pub near_first-a-requires : goal.near_first-a-requires
near_first-a-requires c =
    let t = relied _ _ c.refill_answer.ensures c.in_ok-refill_answer.was in
    (t.planes.sound, t.cells)

pub near_end-b-requires : goal.near_end-b-requires
near_end-b-requires c =
    let t = relied _ _ c.refill_answer.ensures c.in_ok-refill_answer.was in
    (t.planes.sound, t.cells)

pub fill_rows-requires : goal.fill_rows-requires
fill_rows-requires c =
    let t = relied _ _ c.refill_answer.ensures c.in_ok-refill_answer.was in
    let o = near_order _ _ t.planes.sound t.cells in
    let f = c.near_first-a.ensures in
    let g = c.near_end-b.ensures in
    record { fill_lent = t.lent; a_le_b = (rw (f, g) o.0, rw g o.1) }

pub returns : goal.returns
returns c =
    let t = relied _ _ c.refill_answer.ensures c.in_ok-refill_answer.was in
    let x = c.fill_rows.ensures in
    let f = c.near_first-a.ensures in
    let g = c.near_end-b.ensures in
    record {
      answers = sym c.in_ok-refill_answer.was ∙ c.refill_answer.ensures;
      gives = rw (x.out_after, f, g) (near_rows _ _ t.planes.sound t.cells _ _ _ _);
      scratches = rw (f, g) at x.s_after;
    }
