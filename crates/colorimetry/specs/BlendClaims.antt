-- What follows from the promise of `blend_row` over the lists of demand 3 and is claimed beside it. Statements only.
use Rattle.std.specs.Prelude.{◌≡◌, List, ℕ, T, Float}
use Rattle.reconstruction.specs.Fill.{pixels}
use Rattle.reconstruction.specs.Lists.{RowEvent, Event, RanRow, Run, event_of, guided_colour}
use Rattle.reconstruction.specs.Reader.{OpenCall, side_colour}
use Rattle.reconstruction.specs.Refusals.{accepted}
use Rattle.colorimetry.specs.Blends.{BlendReply, BlendCall, BlendGiven}
use Rattle.colorimetry.specs.Mixes.{mix_colour}

-- the event that a blend is in each reader's list
abbrev pub early_event : BlendCall → BlendReply → List Float → RowEvent
early_event c r s = event_of c.early c.y r.answer r.early s

abbrev pub late_event : BlendCall → BlendReply → List Float → RowEvent
late_event c r t = event_of c.late c.y r.answer r.late t

pub record BlendClaims : Type 0 where
  -- "In each reader's list for demand 3 this call counts as a row call .., accepted or refused as it is answered"
  pub early_counts : (c : BlendCall) (r : BlendReply) (s t : List Float) (out : List ℕ) → BlendGiven c r s t out → RanRow (early_event c r s)
  pub late_counts : (c : BlendCall) (r : BlendReply) (s t : List Float) (out : List ℕ) → BlendGiven c r s t out → RanRow (late_event c r t)
  -- "Where both lists keep demand 3's premise and have an accepted open before it, early and late are what the guided exact fill of the two current pictures .. gives in that row"
  pub rows : (c : BlendCall) (r : BlendReply) (s t : List Float) (out : List ℕ) → BlendGiven c r s t out
      → (o u : OpenCall) (es ds : List Event) → Run o (early_event c r s) es → Run u (late_event c r t) ds
      → out ≡ pixels c.out 0 3 (λ x. mix_colour c.weight (guided_colour o c.y x) (guided_colour u c.y x)) o.layout.w
  -- "which gives the early one at 0 and the late one at 16"
  pub at_0 : (c : BlendCall) (r : BlendReply) (s t : List Float) (out : List ℕ) → BlendGiven c r s t out → T (accepted r.answer) → c.weight ≡ 0
      → out ≡ pixels c.out 0 3 (side_colour c.early c.y) c.early.reader.geometry.w
  pub at_16 : (c : BlendCall) (r : BlendReply) (s t : List Float) (out : List ℕ) → BlendGiven c r s t out → T (accepted r.answer) → c.weight ≡ 16
      → out ≡ pixels c.out 0 3 (side_colour c.late c.y) c.early.reader.geometry.w
