-- 'fill to RGB (linear or guided)' of document 01: what it gives. Why it turns a call down stands in specs/Tests. Definitions only.
use Rattle.std.specs.Prelude.{◌≡◌, cond, List, [], ◌∷◌, ℕ, zero, suc, ◌+◌, ◌*◌, Float}
use Rattle.laws.specs.Refusals.{first, accepted, Answer}
use Rattle.image.specs.declared.layout.Layout.{Layout}
use Rattle.image.specs.declared.chroma.Chroma.{Chroma}
use Rattle.image.specs.declared.chroma.Chroma.TheVariants.{Cb, Cr}
use Rattle.image.specs.Picture.{Picture, picture_of, Planes}
use Rattle.linear.specs.Linear.{linear_sample, linear_row}
use Rattle.guided.specs.Guided.{guided_sample}
use Rattle.guided_rows.specs.CatchingUp.{guided_rows}
use Rattle.kernels.specs.Kernels.{Colour}
use Rattle.kernel_blocks.specs.Stores.{pixels}
use Rattle.kernels.specs.declared.kernel.YcbcrKernel.{YcbcrKernel}
use Rattle.colour_rows.specs.Colours.{colour_in}
use Rattle.fill.specs.Tests.{FillCall, fill_tests}
use Rattle.fill.specs.declared.options.ChromaUpsampling.{ChromaUpsampling}
use Rattle.fill.specs.declared.options.ChromaUpsampling.TheVariants.{Linear, LumaGuided}

-- the chroma of column x of row y, "linear or guided"
unfoldable pub chroma_by : ChromaUpsampling → Picture → Chroma → ℕ → ℕ → Float
chroma_by Linear p k y x = linear_sample p.layout (p.chroma k) y x
chroma_by LumaGuided p k y x = guided_sample p k y x

-- the colour of column x of row y, from the picture alone
unfoldable pub fill_colour : ChromaUpsampling → YcbcrKernel → Picture → ℕ → ℕ → Colour
fill_colour up kernel p y x = colour_in p.layout.range kernel p.layout.maxval (p.luma y x) (chroma_by up p Cb y x) (chroma_by up p Cr y x)

-- out after rows a, .. a + n - 1 were stored, w pixels of `size` bytes each: row y begins at y·(w·size), and nothing else is touched
unfoldable pub pixel_rows : ℕ → ℕ → (ℕ → ℕ → Colour) → ℕ → ℕ → List ℕ → List ℕ
pixel_rows w size f a zero out = out
pixel_rows w size f a (suc n) out = pixels (pixel_rows w size f a n out) ((a + n) * (w * size)) size (f (a + n)) w

-- ---- what the papers leave free: what scratch holds after an accepted call

-- a row of linear chroma: Cb's at 0, Cr's at w
unfoldable pub linear_pair : Layout → Planes → ℕ → List Float → List Float
linear_pair l ps y s = linear_row l ps.cr l.w y (linear_row l ps.cb 0 y s)

-- scratch after rows a, .. a + n - 1
unfoldable pub linear_rows : Layout → Planes → ℕ → ℕ → List Float → List Float
linear_rows l ps a zero s = s
linear_rows l ps a (suc n) s = linear_pair l ps (a + n) (linear_rows l ps a n s)

unfoldable pub fill_scratch : ChromaUpsampling → Layout → Planes → ℕ → ℕ → List Float → List Float
fill_scratch Linear l ps a n s = linear_rows l ps a n s
fill_scratch LumaGuided l ps a n s = guided_rows (picture_of l ps) (Cb ∷ Cr ∷ []) a n s

-- what `fill` promises: of its answer, and of scratch and output after it
pub record FillGiven (c : FillCall) (answer : Answer) (scratch' : List Float) (out' : List ℕ) : Type 0 where
  pub answers : answer ≡ first (fill_tests c)
  pub gives : out' ≡ cond (accepted answer) (pixel_rows c.layout.w c.size (fill_colour c.upsampling c.kernel (picture_of c.layout c.planes)) 0 c.layout.h c.out) c.out
  pub scratches : scratch' ≡ cond (accepted answer) (fill_scratch c.upsampling c.layout c.planes 0 c.layout.h c.scratch) c.scratch
