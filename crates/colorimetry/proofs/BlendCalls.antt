-- What a blend's functions promise, from the promises of the row calls: a refused blend, the late row mixed over the early one, both together.
-- A row call keeps its output's length, accepted or not (`length_given`), so that the room for the late row is as long after the call as before.
use Rattle.std.proofs.Common.{◌≡◌, refl, sym, ap, ◌∙◌, subst, Bool, true, false, cond, List, ℕ, ◌*◌, ◌≤◌, Float, length, Ok}
use Rattle.laws.specs.Refusals.{accepted, first}
use Rattle.laws.specs.Lists.{put}
use Rattle.laws.proofs.Refusals.{accepted_failed}
use Rattle.reconstruction.specs.Fill.{pixels}
use Rattle.reconstruction.proofs.Laws.{length_pixels, SideFine, side_fine, side_passes}
use Rattle.guided.specs.declared.state.Reader.{Reader}
use Rattle.guided.specs.Calls.{Reply}
use Rattle.reconstruction.specs.Reader.{Side, RgbRowCall, rgb_row_call, RgbRowGiven, side_reader, side_scratch, side_colour}
use Rattle.reconstruction.specs.Refusals.{rgb_row_tests}
use Rattle.colorimetry.specs.Blends.{BlendCall, BlendGiven, blend_tests, blend_colour}
use Rattle.colorimetry.specs.Inner.Blending.{mixed_at, LateGiven}
use Rattle.colorimetry.proofs.Settling.{early_call}
use Rattle.colorimetry.proofs.Blended.{mix_pixels}
use Rattle.colorimetry.proofs.BlendHanded.{BlendHanded, blend_handed}

-- ---- a row call that can't be refused

record RowDone (k : RgbRowCall) (r : Reply) (s : List Float) (out : List ℕ) : Type 0 where
  pub leaves : r.reader ≡ side_reader k.side k.y
  pub scratches : s ≡ side_scratch k.side k.y
  pub gives : out ≡ pixels k.out 0 3 (side_colour k.side k.y) k.side.reader.geometry.w

row_done : (k : RgbRowCall) (r : Reply) (s : List Float) (out : List ℕ) → RgbRowGiven k r s out → SideFine k.side k.y → k.side.reader.geometry.w * 3 ≤ length k.out → RowDone k r s out
row_done k r s out g f h =
    let a : accepted r.answer ≡ true = ap accepted (g.answers ∙ side_passes k f h) in
    record { leaves = rw a at g.leaves; scratches = rw a at g.scratches; gives = rw a at g.gives }

keeps_length : (b : Bool) (x y : List ℕ) → length x ≡ length y → length (cond b x y) ≡ length y
keeps_length true x y e = e
keeps_length false x y e = refl

length_given : (k : RgbRowCall) (r : Reply) (s : List Float) (out : List ℕ) → RgbRowGiven k r s out → length out ≡ length k.out
length_given k r s out g =
    let w = k.side.reader.geometry.w in
    let f = side_colour k.side k.y in
    ap length g.gives ∙ keeps_length (accepted r.answer) (pixels k.out 0 3 f w) k.out (length_pixels k.out 0 3 f w)

-- ---- the late row, mixed over what stands in out

pub late_given : (k : ℕ) (s : Side) (y : ℕ) (out room : List ℕ) (r : Reply) (scratch : List Float) (late out' : List ℕ)
    → first (rgb_row_tests (rgb_row_call y s out)) ≡ Ok tt → s.reader.geometry.w * 3 ≤ length late → RgbRowGiven (rgb_row_call y s room) r scratch late
    → out' ≡ put out 0 (s.reader.geometry.w * 3) (mixed_at k out late) → LateGiven k s y out r.reader scratch out'
late_given k s y out room r scratch late out' p l g m =
    let f = side_fine (rgb_row_call y s out) (accepted_failed _ p) in
    let h : s.reader.geometry.w * 3 ≤ length room = subst (λ (n : ℕ). s.reader.geometry.w * 3 ≤ n) (length_given (rgb_row_call y s room) r scratch late g) l in
    let d = row_done (rgb_row_call y s room) r scratch late g f h in
    record {
      leaves = d.leaves;
      scratches = d.scratches;
      gives = λ o c O e.
          m ∙ ap (λ (z : List ℕ). put z 0 (s.reader.geometry.w * 3) (mixed_at k z late)) e
          ∙ ap (λ (z : List ℕ). put (pixels o 0 3 c s.reader.geometry.w) 0 (s.reader.geometry.w * 3) (mixed_at k (pixels o 0 3 c s.reader.geometry.w) z)) d.gives
          ∙ mix_pixels o room c (side_colour s y) k s.reader.geometry.w O h;
    }

-- ---- a blend that was accepted

pub handed : (c : BlendCall) → first (blend_tests c) ≡ Ok tt → BlendHanded c
handed c e = blend_handed c (accepted_failed (blend_tests c) e)

-- its first row call can't be refused
pub early_done : (c : BlendCall) → first (blend_tests c) ≡ Ok tt → first (rgb_row_tests (early_call c)) ≡ Ok tt
early_done c e = let h = handed c e in side_passes (early_call c) h.early h.output

pub blend_given : (c : BlendCall) → first (blend_tests c) ≡ Ok tt → (r : Reply) (l : Reader) (s t : List Float) (mid out : List ℕ)
    → RgbRowGiven (early_call c) r s mid → LateGiven c.weight c.late c.y mid l t out → BlendGiven c (record { answer = Ok tt; early = r.reader; late = l }) s t out
blend_given c q r l s t mid out g d =
    let h = handed c q in
    let e = row_done (early_call c) r s mid g h.early h.output in
    let m = d.gives c.out (side_colour c.early c.y) (rw (sym h.wide) h.output) (e.gives ∙ ap (pixels c.out 0 3 (side_colour c.early c.y)) h.wide) in
    record {
      answers = sym q;
      early_leaves = e.leaves;
      late_leaves = d.leaves;
      early_scratches = e.scratches;
      late_scratches = d.scratches;
      gives = m ∙ ap (pixels c.out 0 3 (blend_colour c)) (sym h.wide);
    }
