-- 'fill to RGB (linear or guided)' of document 01: what it is handed, and the reasons for turning the call down. Definitions only.
use Rattle.std.specs.Prelude.{Bool, true, false, ◌&&◌, List, [], ◌∷◌, ◌++◌, ℕ, ◌*◌, ltb, length, Float}
use Rattle.laws.specs.Refusals.{Test}
use Rattle.image.specs.declared.layout.Layout.{Layout}
use Rattle.laws.specs.Numbers.{outside_of}
use Rattle.image.specs.Tests.{bad_siting, tests_for}
use Rattle.image.specs.Picture.{bad_planes, Planes}
use Rattle.image.specs.Limits.{above_any}
use Rattle.image.specs.Scratch.{scratch_need}
use Rattle.kernels.specs.declared.kernel.YcbcrKernel.{YcbcrKernel}
use Rattle.kernels.specs.declared.kernel.YcbcrKernel.TheVariants.{Exact, FixedPoint16}
use Rattle.fill.specs.declared.options.ChromaUpsampling.{ChromaUpsampling}
use Rattle.fill.specs.declared.options.ChromaUpsampling.TheVariants.{Linear, LumaGuided}
use Rattle.laws.specs.declared.refusal.Refusal.TheVariants.{BadPlane, BadPixelSize, ShortScratch, ShortOutput, NotCentred, AboveMaxval}

-- what a fill is handed
pub record FillCall : Type 0 where
  pub layout : Layout
  pub planes : Planes
  pub upsampling : ChromaUpsampling
  pub kernel : YcbcrKernel
  pub size : ℕ
  pub scratch : List Float
  pub out : List ℕ

-- a call written by its arguments, in the order of its record
abbrev pub fill_call : Layout → Planes → ChromaUpsampling → YcbcrKernel → ℕ → List Float → List ℕ → FillCall
fill_call layout planes upsampling kernel size scratch out =
    record { layout = layout; planes = planes; upsampling = upsampling; kernel = kernel; size = size; scratch = scratch; out = out }

abbrev pub is_fixed : YcbcrKernel → Bool
is_fixed Exact = false
is_fixed FixedPoint16 = true

abbrev pub is_guided : ChromaUpsampling → Bool
is_guided Linear = false
is_guided LumaGuided = true

-- 2, 3, where "Guided and triangular stay with numerator 1", 4, 18, 5, then 16: "Co-sited on either axis with guided", "looked at right after 6", 7, 17, "after 7 and before 8", 8: "pixel size not 3 or 4", 9 and 10: "output too short"
unfoldable pub fill_tests : FillCall → List Test
fill_tests c =
    let l = c.layout in
    tests_for (is_guided c.upsampling) (is_fixed c.kernel) l
    ++ ((is_guided c.upsampling && bad_siting l, NotCentred) ∷ (bad_planes l c.planes, BadPlane) ∷ (above_any l c.planes, AboveMaxval) ∷ (outside_of 3 4 c.size, BadPixelSize) ∷ (ltb (length c.scratch) (scratch_need l), ShortScratch) ∷ (ltb (length c.out) (l.w * l.h * c.size), ShortOutput) ∷ [])
