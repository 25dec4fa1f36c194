-- A whole chroma plane, guided by luma: the reasons for turning the call down, and what it gives. Definitions only.
use Rattle.std.specs.Prelude.{◌≡◌, Bool, false, ◌||◌, cond, List, [], ◌∷◌, ◌++◌, ℕ, ◌*◌, ltb, length, Float}
use Rattle.laws.specs.Lists.{rows}
use Rattle.laws.specs.Refusals.{Test, first, accepted, Answer}
use Rattle.image.specs.declared.layout.Layout.{Layout}
use Rattle.image.specs.Tests.{bad_siting, layout_tests}
use Rattle.image.specs.Samples.{Plane}
use Rattle.image.specs.declared.chroma.Chroma.TheVariants.{Cb}
use Rattle.image.specs.Picture.{Picture, picture_of, short_plane, Planes}
use Rattle.image.specs.Limits.{above}
use Rattle.fround.specs.Rounding.{round_clamped}
use Rattle.image.specs.Scratch.{scratch_need}
use Rattle.guided.specs.Guided.{guided_sample}
use Rattle.guided_rows.specs.CatchingUp.{guided_rows}
use Rattle.laws.specs.declared.refusal.Refusal.TheVariants.{BadPlane, ShortScratch, ShortOutput, NotCentred, AboveMaxval}

-- the planes, and the picture, with luma y and the one chroma plane c: c stands for both components, and only Cb is asked for
abbrev pub planes_with : Plane → Plane → Planes
planes_with y c = record { y = y; cb = c; cr = c }

abbrev pub picture_with : Layout → Plane → Plane → Picture
picture_with l y c = picture_of l (planes_with y c)

-- 7: luma or the chroma plane is too short
unfoldable pub short_pair : Layout → Plane → Plane → Bool
short_pair l y c = short_plane l l.w l.h y || short_plane l l.cw l.ch c

-- 17: a sample of luma or of the chroma plane exceeds maxval
unfoldable pub above_pair : Layout → Plane → Plane → Bool
above_pair l y c = above l l.w l.h y || above l l.cw l.ch c

-- "refusals 2, 3, 4, 5, 7, 9, 10", 18 "right after 4", and 16, "looked at right after 6", and 17, "after 7 and before 8"; `space` and `room` are how many values scratch and output hold
unfoldable pub guided_tests : Layout → Plane → Plane → ℕ → ℕ → List Test
guided_tests l y c space room = layout_tests false l ++ ((bad_siting l, NotCentred) ∷ (short_pair l y c, BadPlane) ∷ (above_pair l y c, AboveMaxval) ∷ (ltb space (scratch_need l), ShortScratch) ∷ (ltb room (l.w * l.h), ShortOutput) ∷ [])

-- the output afterwards: w·h guided samples row by row, "rounded and limited to 0..maxval"; the rest is as it was
unfoldable pub guided_plane : Picture → List ℕ → List ℕ
guided_plane p out = rows out p.layout.w p.layout.h (λ y x. round_clamped p.layout.maxval (guided_sample p Cb y x))

-- what `guided_plane` promises: of its answer, and of scratch and output after it; scratch, which the papers leave free, holds what the rows leave
pub record GuidedGiven (l : Layout) (y c : Plane) (scratch : List Float) (out : List ℕ) (answer : Answer) (scratch' : List Float) (out' : List ℕ) : Type 0 where
  pub answers : answer ≡ first (guided_tests l y c (length scratch) (length out))
  pub gives : out' ≡ cond (accepted answer) (guided_plane (picture_with l y c) out) out
  pub scratches : scratch' ≡ cond (accepted answer) (guided_rows (picture_with l y c) (Cb ∷ []) 0 l.h scratch) scratch
