-- The rooms of the program: what it lends is enough for every input, and a picture that is written fits.
-- An input that is read is 128 wide at most and has no more pixels than bytes (`Taken`), which limits scratch to 64 · 128 + 8 · 128 floats
-- and the PPM to 16 + 3 · 49,152 bytes (`scratch_most`, `out_most`); so the tests for 9 and 10 never apply.
use Rattle.std.proofs.Common.{◌≡◌, refl, sym, ap, ◌∙◌, List, [], ◌∷◌, ◌++◌, ℕ, ◌≤◌, arith, length, length-append, Float, le-ltb, ltb-false, Ok, Err}
use Rattle.laws.specs.Refusals.{Answer, first, accepted}
use Rattle.laws.proofs.Refusals.{accepted_failed, failed_both, passed_early, refused_early}
use Rattle.image.specs.Limits.{exceeds}
use Rattle.image.specs.Scratch.{scratch_need}
use Rattle.netpbm.specs.declared.lines.Line.{Line}
use Rattle.netpbm.specs.Texts.{line_of}
use Rattle.netpbm.specs.Lines.{refusal_line}
use Rattle.netpbm.specs.Reading.{input_layout, reading_tests}
use Rattle.netpbm.specs.Inner.Reading.{input_reading, reading_of}
use Rattle.netpbm.specs.Inner.Taken.{Taken}
use Rattle.netpbm.proofs.Acceptance.{taken}
use Rattle.picture.specs.Picture.{input_picture, ppm_length, lent_tests, picture_tests, pick_outcome, PictureGiven}
use Rattle.picture.proofs.Readings.{layout_sound}
use Rattle.picture.proofs.Fronts.{ppm_most}
use Rattle.laws.specs.declared.refusal.Refusal.TheVariants.{AboveMaxval}

-- what an input that is read asks for
module _ (input : List ℕ) (a : first (reading_tests input) ≡ Ok tt) where
  read_taken : Taken input (input_reading input)
  unfolding reading_of
  read_taken = taken (rw a refl)

  scratch_most : scratch_need (input_layout input) ≤ 5120
  unfolding scratch_need
  scratch_most = let w = read_taken.width in let c = (layout_sound read_taken).cw_most in omega arith

  out_most : ppm_length (input_layout input) ≤ 147472
  out_most = ppm_most read_taken

-- with 5,120 values of scratch and 147,472 bytes of out neither 9 nor 10 is ever given
pub room_enough : (input : List ℕ) (scratch : List Float) (out : List ℕ) → 5120 ≤ length scratch → 147472 ≤ length out → first (picture_tests input scratch out) ≡ first (reading_tests input ++ ((exceeds (input_picture input), AboveMaxval) ∷ []))
unfolding picture_tests lent_tests input_picture first
room_enough input scratch out g h = go (first (reading_tests input)) refl
  where
    go : (a : Answer) → first (reading_tests input) ≡ a → first (reading_tests input ++ lent_tests (input_picture input) scratch out) ≡ first (reading_tests input ++ ((exceeds (input_picture input), AboveMaxval) ∷ []))
    go (Ok tt) k =
        passed_early (reading_tests input) _ (ap accepted k)
        ∙ rw (le-ltb (length scratch) (scratch_need (input_layout input)) (omega (arith, scratch_most input k)), le-ltb (length out) (ppm_length (input_layout input)) (omega (arith, out_most input k))) refl
        ∙ sym (passed_early (reading_tests input) _ (ap accepted k))
    go (Err n) k = refused_early (reading_tests input) _ (ap accepted k) ∙ sym (refused_early (reading_tests input) _ (ap accepted k))

-- a picture that was written fits out
pub written_fits : {input : List ℕ} {scratch : List Float} {out : List ℕ} {n : ℕ} {scratch' : List Float} {out' : List ℕ} → PictureGiven input scratch out (Ok n) scratch' out' → n ≤ length out
unfolding picture_tests lent_tests input_picture
written_fits {input} {scratch} {out} {n} g = go (first (picture_tests input scratch out)) refl g.answers
  where
    go : (a : Answer) → first (picture_tests input scratch out) ≡ a → Ok n ≡ pick_outcome a (ppm_length (input_layout input)) → n ≤ length out
    go (Ok tt) k e =
        let m : n ≡ ppm_length (input_layout input) = cc in
        let f = failed_both (reading_tests input) _ (accepted_failed (picture_tests input scratch out) k) in
        let b = ltb-false (length out) (ppm_length (input_layout input)) f.1.1.1.0 in
        omega arith
    go (Err j) k e = let z : ◌≡◌ {A = ℕ} 0 1 = cc in absurd (omega arith)

-- the line of a refusal ends inside its bytes
pub refusal_fits : (n : ℕ) (line : Line) → line ≡ line_of (refusal_line n) → line.len ≤ length line.bytes
unfolding line_of
refusal_fits n line e = rw (ap (λ (l : Line). l.len) e, ap (λ (l : Line). length l.bytes) e, length-append) (omega arith)
