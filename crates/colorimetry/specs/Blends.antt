-- W14, 'Between two photographs': a row of the mix of two pictures, from their readers. Definitions only.
use Rattle.std.specs.Prelude.{◌≡◌, Bool, true, false, ◌||◌, ◌&&◌, not, cond, List, [], ◌∷◌, ℕ, ◌*◌, leb, ltb, eqb, length, Float}
use Rattle.std.specs.Bool.{beq}
use Rattle.reconstruction.specs.Colour.{Colour}
use Rattle.reconstruction.specs.Fill.{pixels}
use Rattle.reconstruction.specs.Geometry.{scratch_need}
use Rattle.reconstruction.specs.Reader.{reader_layout, Side, side_reader, side_scratch, side_colour}
use Rattle.reconstruction.specs.Refusals.{Answer, Test, first, accepted, bad_state, bad_planes}
use Rattle.image.specs.declared.layout.Range.{Range}
use Rattle.image.specs.declared.layout.Range.TheVariants.{Full, Studio}
use Rattle.guided.specs.declared.geometry.Geometry.{Geometry}
use Rattle.guided.specs.declared.state.Reader.{Reader}
use Rattle.colorimetry.specs.Mixes.{mix_colour}
use Rattle.laws.specs.declared.refusal.Refusal.TheVariants.{BadState, BadPlane, ShortScratch, ShortOutput, BadRow, RowPassed, Unlike}

-- "Take two pictures of equal geometry and a weight k from 0 to 16. One call gives one row of RGB .. from both readers"
pub record BlendCall : Type 0 where
  pub y : ℕ
  pub weight : ℕ
  pub early : Side
  pub late : Side
  pub out : List ℕ

abbrev pub blend_call : ℕ → ℕ → Side → Side → List ℕ → BlendCall
blend_call y weight early late out = record { y = y; weight = weight; early = early; late = late; out = out }

-- ---- the refusals

-- whether a range is studio, and not full
abbrev pub is_studio : Range → Bool
is_studio Full = false
is_studio Studio = true

unfoldable pub same_range : Range → Range → Bool
same_range a b = beq (is_studio a) (is_studio b)

-- "equal geometry": the sizes, the ratios and the range of the geometry record. Its phases follow from the ratio where both states are good; sample bytes, maxval, place and counters are none of it
unfoldable pub same_geometry : Geometry → Geometry → Bool
same_geometry g h = (eqb g.w h.w && eqb g.h h.h) && ((eqb g.rh h.rh && eqb g.rv h.rv) && ((eqb g.cw h.cw && eqb g.ch h.ch) && same_range g.range h.range))

-- 22: "Unequal geometry, or a weight above 16"
unfoldable pub unlike_of : Geometry → Geometry → ℕ → Bool
unlike_of g h k = not (same_geometry g h) || ltb 16 k

-- "gets 22, right after the two states are checked"; then the row call's, each for either picture. An output is too short by three bytes a pixel
unfoldable pub blend_tests : BlendCall → List Test
blend_tests c =
    let e = c.early in
    let f = c.late in
    let l = reader_layout e.reader in
    let m = reader_layout f.reader in
    (bad_state e.reader || bad_state f.reader, BadState)
    ∷ (unlike_of e.reader.geometry f.reader.geometry c.weight, Unlike)
    ∷ (bad_planes l e.planes || bad_planes m f.planes, BadPlane)
    ∷ (ltb (length e.scratch) (scratch_need l) || ltb (length f.scratch) (scratch_need m), ShortScratch)
    ∷ (ltb (length c.out) (l.w * 3), ShortOutput)
    ∷ (leb l.h c.y, BadRow)
    ∷ (ltb c.y e.reader.place || ltb c.y f.reader.place, RowPassed) ∷ []

-- ---- the promise

-- the colour of column x: "Each RGB byte is floor(((16−k)·early + k·late + 8)/16)"
abbrev pub blend_colour : BlendCall → ℕ → Colour
blend_colour c x = mix_colour c.weight (side_colour c.early c.y x) (side_colour c.late c.y x)

-- what `blend_row` answers, with both states after it
pub record BlendReply : Type 0 where
  pub answer : Answer
  pub early : Reader
  pub late : Reader

abbrev pub blend_reply : Answer → Reader → Reader → BlendReply
blend_reply answer early late = record { answer = answer; early = early; late = late }

-- "each moved as by a row call; a refusal for either leaves both states, both scratches and the output untouched"
pub record BlendGiven (c : BlendCall) (r : BlendReply) (scratchE scratchL : List Float) (out : List ℕ) : Type 0 where
  pub answers : r.answer ≡ first (blend_tests c)
  pub early_leaves : r.early ≡ cond (accepted r.answer) (side_reader c.early c.y) c.early.reader
  pub late_leaves : r.late ≡ cond (accepted r.answer) (side_reader c.late c.y) c.late.reader
  pub early_scratches : scratchE ≡ cond (accepted r.answer) (side_scratch c.early c.y) c.early.scratch
  pub late_scratches : scratchL ≡ cond (accepted r.answer) (side_scratch c.late c.y) c.late.scratch
  pub gives : out ≡ cond (accepted r.answer) (pixels c.out 0 3 (blend_colour c) c.early.reader.geometry.w) c.out
