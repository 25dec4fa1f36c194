-- What the samples of a row rely on, and what a gathered block is. Definitions only.
use Rattle.std.specs.Prelude.{◌≡◌, false, List, ℕ, ◌<◌, get_or}
use Rattle.image.specs.declared.layout.Layout.{Layout}
use Rattle.image.specs.Inner.Tests.{Shaped}
use Rattle.image.specs.Samples.{Plane}
use Rattle.image.specs.Picture.{short_plane}

-- a layout, luma's plane and a row of the picture
pub record LumaRow (l : Layout) (p : Plane) (row : ℕ) : Type 0 where
  pub shaped : Shaped l
  pub plane : short_plane l l.w l.h p ≡ false
  pub inside : row < l.h

-- v holds the n numbers f 0, .. f (n - 1)
abbrev pub Listed : ℕ → List ℕ → (ℕ → ℕ) → Type 0
Listed n v f = (k : ℕ) → k < n → get_or v k 0 ≡ f k
