-- What the calls for C promise: the Rattle calls' own records, of the values that C's stand for. Definitions only.
use Rattle.std.specs.Prelude.{◌≡◌, Bool, true, false, ◌||◌, ℕ, eqb, ltb, Ok, Err}
use Rattle.laws.specs.Refusals.{Answer, number_of}
use Rattle.guided.specs.Calls.{Reply}
use Rattle.kernels.specs.Pixels.{Pixel}
use Rattle.kernels.specs.declared.kernel.YcbcrKernel.{YcbcrKernel}
use Rattle.kernels.specs.declared.kernel.YcbcrKernel.TheVariants.{Exact, FixedPoint16}
use Rattle.fill.specs.declared.options.ChromaUpsampling.{ChromaUpsampling}
use Rattle.fill.specs.declared.options.ChromaUpsampling.TheVariants.{Linear, LumaGuided}
use Rattle.picture.specs.Picture.{Outcome}
use Rattle.ffi.specs.declared.types.ChromaLayout.{ChromaLayout}
use Rattle.ffi.specs.declared.types.ChromaReader.{ChromaReader}
use Rattle.ffi.specs.declared.types.ChromaReply.{ChromaReply}
use Rattle.ffi.specs.declared.types.ChromaPixel.{ChromaPixel}
use Rattle.ffi.specs.declared.types.ChromaWritten.{ChromaWritten}
use Rattle.ffi.specs.Types.{answer_number, strange_layout}
use Rattle.ffi.specs.Replies.{reply_to}

-- ---- numbers for answers

-- a number that stands for the answer of a call of which `Given` holds
pub record Answered (Given : Answer → Type 0) (r : ℕ) : Type 0 where
  pub answer : Answer
  pub given : Given answer
  pub number : r ≡ answer_number answer

-- the number of a call that is handed a layout or a switch: 255, before all else and with nothing changed (`Kept`), where one of C's numbers stands for none (`strange`); else that of the Rattle call's answer
pub record Numbered (strangely : Bool) (Kept : Type 0) (Given : Answer → Type 0) (r : ℕ) : Type 0 where
  pub strange : strangely ≡ true → (r ≡ 255) × Kept
  pub plain : strangely ≡ false → Answered Given r

-- ---- the reader

-- a reply that stands for the Rattle call's, of which `Given` holds
pub record Replied (handed : ChromaReader) (Given : Reply → Type 0) (r : ChromaReply) : Type 0 where
  pub reply : Reply
  pub given : Given reply
  pub is : r ≡ reply_to handed reply

-- a reply that has a number of its own, with nothing changed (`Kept`), where what C handed stands for none, and else is the Rattle call's: 255 for open's layout, 1 for the state of seek and row
pub record Checked (strangely : Bool) (number : ℕ) (handed : ChromaReader) (Kept : Type 0) (Given : Reply → Type 0) (r : ChromaReply) : Type 0 where
  pub strange : strangely ≡ true → (r ≡ record { refusal = number; reader = handed }) × Kept
  pub plain : strangely ≡ false → Replied handed Given r

-- ---- fill

-- a where the bool is true, else b
abbrev pub pick_upsampling : Bool → ChromaUpsampling → ChromaUpsampling → ChromaUpsampling
pick_upsampling true a b = a
pick_upsampling false a b = b

abbrev pub pick_kernel : Bool → YcbcrKernel → YcbcrKernel → YcbcrKernel
pick_kernel true a b = a
pick_kernel false a b = b

-- 0 linear, 1 guided
unfoldable pub as_upsampling : ℕ → ChromaUpsampling
as_upsampling n = pick_upsampling (eqb n 1) LumaGuided Linear

-- 0 exact, 1 fixed
unfoldable pub as_kernel : ℕ → YcbcrKernel
as_kernel n = pick_kernel (eqb n 1) FixedPoint16 Exact

-- another number than 0 and 1 stands for no way to fill, for no siting and for no range
unfoldable pub no_such_way : ChromaLayout → ℕ → ℕ → Bool
no_such_way l upsampling kernel = (ltb 1 upsampling || ltb 1 kernel) || strange_layout l

-- ---- pixels and the picture

-- a number and no colour
abbrev pub no_colour : ℕ → ChromaPixel
no_colour n = record { refusal = n; r = 0; g = 0; b = 0 }

-- the paper's number and no colour, or 0 and the colour
abbrev pub chroma_pixel : Pixel → ChromaPixel
chroma_pixel (Ok p) = record { refusal = 0; r = p.r; g = p.g; b = p.b }
chroma_pixel (Err why) = no_colour (number_of why)

abbrev pub pick_pixel : Bool → ChromaPixel → ChromaPixel → ChromaPixel
pick_pixel true a b = a
pick_pixel false a b = b

-- the same of a pixel in a range; 255, before all else, where the range is neither 0 nor 1
unfoldable pub chroma_pixel_in : ℕ → Pixel → ChromaPixel
chroma_pixel_in range p = pick_pixel (ltb 1 range) (no_colour 255) (chroma_pixel p)

abbrev pub chroma_written : Outcome → ChromaWritten
chroma_written (Ok n) = record { refusal = 0; len = n }
chroma_written (Err why) = record { refusal = number_of why; len = 0 }

-- what `chroma_picture` promises
pub record Pictured (Given : Outcome → Type 0) (r : ChromaWritten) : Type 0 where
  pub outcome : Outcome
  pub given : Given outcome
  pub is : r ≡ chroma_written outcome
