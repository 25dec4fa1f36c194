-- A state that went to C and came back is the state it was, and C's form of it is never a strange one. This is what carries laws about lists of the Rattle calls over to calls through C.
use Rattle.std.proofs.Common.{◌≡◌, refl, Bool, true, false, cond, List, [], ◌∷◌, ℕ, arith, eqb, ltb, length, get_or}
use lib.Ieee.{nan}
use Rattle.image.specs.declared.layout.Range.{Range}
use Rattle.image.specs.declared.layout.Range.TheVariants.{Full, Studio}
use Rattle.taps.specs.declared.phases.Phase.{Phase}
use Rattle.guided.specs.declared.state.Reader.{Reader}
use Rattle.guided.specs.Calls.{phase_in}
use Rattle.ffi.specs.Types.{as_range, chroma_range, as_phase, chroma_phase, strange_phases, strange_reader, as_reader, chroma_reader}

left_back : (b : Bool) → eqb (cond b 1 0) 1 ≡ b
left_back true = refl
left_back false = refl

left_low : (b : Bool) → ltb 1 (cond b 1 0) ≡ false
left_low true = refl
left_low false = refl

range_back : (range : Range) → as_range (chroma_range range) ≡ range
unfolding as_range chroma_range
range_back Full = refl
range_back Studio = refl

range_low : (range : Range) → ltb 1 (chroma_range range) ≡ false
unfolding chroma_range
range_low Full = refl
range_low Studio = refl

phase_back : (p : Phase) → as_phase (chroma_phase p) ≡ p
unfolding as_phase chroma_phase
phase_back p = λ t. record { left = left_back p.left t; f = p.f }

-- an array of four
phases_back : (ps : List Phase) (back : Phase → Phase) → ((p : Phase) → back p ≡ p) → length ps ≡ 4 → (let at = get_or ps in let d : Phase = record { left = false; f = nan } in back (at 0 d) ∷ back (at 1 d) ∷ back (at 2 d) ∷ back (at 3 d) ∷ []) ≡ ps
phases_back [] back e n = absurd (omega arith)
phases_back (a ∷ []) back e n = absurd (omega arith)
phases_back (a ∷ b ∷ []) back e n = absurd (omega arith)
phases_back (a ∷ b ∷ c ∷ []) back e n = absurd (omega arith)
phases_back (a ∷ b ∷ c ∷ x ∷ []) back e n = rw (e a, e b, e c, e x) refl
phases_back (a ∷ b ∷ c ∷ x ∷ y ∷ ps) back e n = absurd (omega arith)

pub reader_back : (s : Reader) → length s.geometry.phases ≡ 4 → as_reader (chroma_reader s) ≡ s
unfolding as_reader chroma_reader
reader_back s n =
    let g = s.geometry in
    λ t. record {
      geometry = record { w = g.w; h = g.h; rh = g.rh; rv = g.rv; cw = g.cw; ch = g.ch; phases = phases_back g.phases (λ p. as_phase (chroma_phase p)) phase_back n t; range = range_back g.range t };
      sample_bytes = s.sample_bytes;
      maxval = s.maxval;
      place = s.place;
      h_next = s.h_next;
      f_next = s.f_next;
    }

pub never_strange : (s : Reader) → strange_reader (chroma_reader s) ≡ false
unfolding strange_reader strange_phases chroma_reader chroma_phase
never_strange s =
    let low : (k : ℕ) → ltb 1 (cond (phase_in s.geometry k).left 1 0) ≡ false = λ k. left_low (phase_in s.geometry k).left in
    rw (low 0, low 1, low 2, low 3, range_low s.geometry.range) refl
