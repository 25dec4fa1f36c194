-- What C's rectangle stands for, and what C gets of a patch. Definitions only.
use Rattle.std.specs.Prelude.{◌≡◌, List, [], ◌∷◌, ℕ, Float}
use Rattle.std.specs.Float.{binary64}
use Rattle.std.specs.Float.Ieee.{of_bits}
use Rattle.image.specs.declared.rectangle.Rectangle.{Rectangle}
use Rattle.colorimetry.specs.declared.patch.Patch.{Patch}
use Rattle.colorimetry.specs.declared.patch.Patch.TheVariants.{Mean, Nothing}
use Rattle.colorimetry.specs.Patches.{PatchReply}
use Rattle.ffi.specs.declared.patches.ChromaRectangle.{ChromaRectangle}
use Rattle.ffi.specs.declared.patches.ChromaPatch.{ChromaPatch}
use Rattle.ffi.specs.Types.{answer_number}

unfoldable pub as_rectangle : ChromaRectangle → Rectangle
as_rectangle r = record { left = r.left; top = r.top; width = r.width; height = r.height }

-- 1 for a mean, 0 for nothing
abbrev pub given_of : Patch → ℕ
given_of (Mean r g b) = 1
given_of Nothing = 0

-- zeros beside nothing
abbrev pub means_of : Patch → List Float
means_of (Mean r g b) = r ∷ g ∷ b ∷ []
means_of Nothing = of_bits binary64 0 ∷ of_bits binary64 0 ∷ of_bits binary64 0 ∷ []

unfoldable pub chroma_patch : PatchReply → ChromaPatch
chroma_patch p = record { refusal = answer_number p.answer; given = given_of p.patch; pixels = p.pixels; mean = means_of p.patch; whole = p.whole }

-- what `chroma_patch` promises: the Rattle call's answer, of which `Given` holds
pub record ReadPatch (Given : PatchReply → Type 0) (r : ChromaPatch) : Type 0 where
  pub patched : PatchReply
  pub given : Given patched
  pub is : r ≡ chroma_patch patched
