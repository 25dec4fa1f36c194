-- 'The picture program' of document 01 as one call: the reasons for turning the input down, and the bytes that it writes.
-- Definitions only.
use Rattle.std.specs.Prelude.{◌≡◌, Bool, true, false, cond, List, [], ◌∷◌, ◌++◌, ℕ, ◌+◌, ◌*◌, ltb, length, drop, Float, Ok, Err, Result}
use Rattle.laws.specs.Refusals.{Answer, Test, first}
use Rattle.image.specs.declared.layout.Layout.{Layout}
use Rattle.image.specs.declared.chroma.Chroma.{Chroma}
use Rattle.image.specs.declared.chroma.Chroma.TheVariants.{Cb, Cr}
use Rattle.image.specs.Picture.{Picture, inside}
use Rattle.image.specs.Limits.{exceeds}
use Rattle.image.specs.Scratch.{scratch_need}
use Rattle.kernels.specs.declared.kernel.YcbcrKernel.TheVariants.{Exact}
use Rattle.fill.specs.declared.options.ChromaUpsampling.TheVariants.{LumaGuided}
use Rattle.fill.specs.Fill.{fill_colour, pixel_rows}
use Rattle.guided_rows.specs.CatchingUp.{guided_rows}
use Rattle.netpbm.specs.Images.{image_sample}
use Rattle.netpbm.specs.Lines.{ppm_header}
use Rattle.netpbm.specs.Reading.{cb_at, cr_at, input_layout, reading_tests}
use Rattle.laws.specs.declared.refusal.Refusal.{Refusal}
use Rattle.laws.specs.declared.refusal.Refusal.TheVariants.{ShortScratch, ShortOutput, AboveMaxval}

-- ---- the picture that the input holds

-- "three Netpbm PGM images one after another (Y, Cb, Cr)": where that of a component stands
abbrev pub chroma_at : List ℕ → Chroma → ℕ
chroma_at input Cb = cb_at input
chroma_at input Cr = cr_at input

-- the input's layout with the samples of its images
unfoldable pub input_picture : List ℕ → Picture
input_picture input =
    let l = input_layout input in
    record {
      layout = l;
      luma = inside l.w l.h (image_sample input 0);
      chroma = λ k. inside l.cw l.ch (image_sample input (chroma_at input k));
    }

-- ---- what is written

-- how many bytes a PPM of this layout has, header and pixels
unfoldable pub ppm_length : Layout → ℕ
ppm_length l = length (ppm_header l.w l.h) + l.w * l.h * 3

-- "It writes a PPM, guided and exact": the header, "then R, G, B bytes", row by row. What stood in out behind these is as it was.
unfoldable pub ppm_over : Picture → List ℕ → List ℕ
ppm_over p out =
    let l = p.layout in
    let header = ppm_header l.w l.h in
    header ++ pixel_rows l.w 3 (fill_colour LumaGuided Exact p) 0 l.h (drop (length header) out)

-- what the papers leave free: what scratch holds afterwards, all rows of both components having been made in it
unfoldable pub scratch_after : Picture → List Float → List Float
scratch_after p scratch = guided_rows p (Cb ∷ Cr ∷ []) 0 p.layout.h scratch

-- ---- the reasons for turning the input down

-- those of a picture that was read: 17, "in the program after 5", then 9, "scratch too short", and 10, "output too short"
unfoldable pub lent_tests : Picture → List Float → List ℕ → List Test
lent_tests p scratch out =
    let l = p.layout in
    (exceeds p, AboveMaxval) ∷ (ltb (length scratch) (scratch_need l), ShortScratch) ∷ (ltb (length out) (ppm_length l), ShortOutput) ∷ []

-- the reading's "own order", then those
unfoldable pub picture_tests : List ℕ → List Float → List ℕ → List Test
picture_tests input scratch out = reading_tests input ++ lent_tests (input_picture input) scratch out

-- how many bytes were written, or why none was
abbrev pub Outcome : Type 0
Outcome = Result ℕ Refusal

-- how many bytes were written where the answer is accepted, and otherwise the answer's reason
abbrev pub pick_outcome : Answer → ℕ → Outcome
pick_outcome (Ok _) n = Ok n
pick_outcome (Err why) n = Err why

-- the outcome is that a picture was written
abbrev pub is_written : Outcome → Bool
is_written (Ok n) = true
is_written (Err why) = false

-- what `picture` promises: of its outcome, and of out and scratch after it; on refusal "every slice is unchanged"
pub record PictureGiven (input : List ℕ) (scratch : List Float) (out : List ℕ) (outcome : Outcome) (scratch' : List Float) (out' : List ℕ) : Type 0 where
  pub answers : outcome ≡ pick_outcome (first (picture_tests input scratch out)) (ppm_length (input_layout input))
  pub gives : out' ≡ cond (is_written outcome) (ppm_over (input_picture input) out) out
  pub scratches : scratch' ≡ cond (is_written outcome) (scratch_after (input_picture input) scratch) scratch
