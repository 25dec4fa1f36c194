-- A call that sends a reader's row to the kernel counts as a row call in the reader's list: `side_ran`, for an RGB row and for either side of
-- a blend. Where it was accepted its side is fine, so that row's own tests fail too: the outputs of `row_of` are as long as a row.
use Rattle.std.proofs.Common.{◌≡◌, refl, sym, ◌∙◌, Bool, true, false, cond, ◌||◌, List, [], ℕ, ◌*◌, ◌≤◌, arith, T, leb, ltb, length, replicate, Float, le-ltb, Ok}
use lib.ListN.{length-replicate}
use lib.Ieee.{nan}
use Rattle.laws.specs.Refusals.{Answer, accepted, first}
use Rattle.laws.proofs.Refusals.{Failed, accepted_is, failed_accepted}
use Rattle.image.specs.Picture.{bad_planes}
use Rattle.image.specs.Scratch.{scratch_need}
use Rattle.guided.specs.declared.state.Reader.{Reader}
use Rattle.guided.specs.Calls.{Reply, reader_layout, bad_state, row_tests}
use Rattle.guided.specs.Events.{RanRow}
use Rattle.guided.proofs.Acceptance.{all_failed, is_true}
use Rattle.rgb_rows.specs.RgbRows.{Side, RgbRowCall, RgbRowGiven, rgb_row_tests, row_of, side_reader, side_scratch, event_of}

-- a side whose row call is accepted, given room for the row
pub record SideFine (s : Side) (y : ℕ) : Type 0 where
  pub state : bad_state s.reader ≡ false
  pub planes : bad_planes (reader_layout s.reader) s.planes ≡ false
  pub room : ltb (length s.scratch) (scratch_need (reader_layout s.reader)) ≡ false
  pub inside : leb (reader_layout s.reader).h y ≡ false
  pub onward : ltb y s.reader.place ≡ false

pub pick : {A : Type 0} (b : Bool) (x y : A) → T b → cond b x y ≡ x
pick true x y t = refl
pick false x y t = absurd t

neither_short : (w : ℕ) → (ltb (length (replicate {A = Float} w nan)) w || ltb (length (replicate {A = Float} w nan)) w) ≡ false
neither_short w = let e : ltb (length (replicate {A = Float} w nan)) w ≡ false = le-ltb _ w (rw (length-replicate w nan) (omega arith)) in rw e refl

passes : (s : Side) (y : ℕ) → SideFine s y → first (row_tests (row_of s y)) ≡ first []
unfolding row_tests row_of reader_layout first
passes s y f = failed_accepted (row_tests (row_of s y)) (f.state, (f.planes, (f.room, (neither_short s.reader.geometry.w, (f.inside, (f.onward, tt))))))

-- a call that answers a, accepted only where the side is fine, is a row event
pub side_ran : (s : Side) (y : ℕ) (a : Answer) (r : Reader) (xs : List Float) → (T (accepted a) → SideFine s y)
    → r ≡ cond (accepted a) (side_reader s y) s.reader → xs ≡ cond (accepted a) (side_scratch s y) s.scratch → RanRow (event_of s y a r xs)
unfolding RanRow event_of row_of first
side_ran s y a r xs f er ex acc = record {
  answers = accepted_is a (is_true (accepted a) acc) ∙ sym (passes s y (f acc));
  leaves = er;
  scratches = ex;
  cbs = sym (pick (accepted a) _ _ acc);
  crs = sym (pick (accepted a) _ _ acc);
}

-- what an accepted RGB row call knows of its side
pub side_fine : (c : RgbRowCall) → Failed (rgb_row_tests c) → SideFine c.side c.y
unfolding rgb_row_tests
side_fine c f = record { state = f.0; planes = f.1.0; room = f.1.1.0; inside = f.1.1.1.1.0; onward = f.1.1.1.1.1.0 }

-- and where the side is fine and the output has room, the call is accepted
pub side_passes : (c : RgbRowCall) → SideFine c.side c.y → c.side.reader.geometry.w * 3 ≤ length c.out → first (rgb_row_tests c) ≡ Ok tt
unfolding rgb_row_tests reader_layout
side_passes c f h = failed_accepted (rgb_row_tests c) (f.state, (f.planes, (f.room, (le-ltb (length c.out) (c.side.reader.geometry.w * 3) h, (f.inside, (f.onward, tt))))))

pub rgb_row_ran : (c : RgbRowCall) (r : Reply) (s : List Float) (out : List ℕ) → RgbRowGiven c r s out → RanRow (event_of c.side c.y r.answer r.reader s)
rgb_row_ran c r s out g = side_ran c.side c.y r.answer r.reader s (λ a. side_fine c (all_failed (rgb_row_tests c) r.answer g.answers a)) g.leaves g.scratches
