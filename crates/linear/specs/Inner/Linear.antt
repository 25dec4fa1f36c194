-- What an accepted call knows of the layout, the plane and the scratch. Definitions only.
use Rattle.std.specs.Prelude.{◌≡◌, false, ℕ, ◌≤◌}
use Rattle.image.specs.declared.layout.Layout.{Layout}
use Rattle.image.specs.Inner.Tests.{Shaped}
use Rattle.image.specs.Samples.{Plane}
use Rattle.image.specs.Picture.{short_plane}
use Rattle.image.specs.Scratch.{scratch_need}

-- what an accepted call knows of the layout, the plane and the scratch
pub record Ready (l : Layout) (p : Plane) (space : ℕ) : Type 0 where
  pub shaped : Shaped l
  pub plane : short_plane l l.cw l.ch p ≡ false
  pub scratch : scratch_need l ≤ space
