-- What is known of lent planes, and the components, as the inner functions' contracts say it. Definitions only.
use Rattle.std.specs.Prelude.{◌≡◌, false, List, [], ◌∷◌}
use Rattle.image.specs.declared.layout.Layout.{Layout}
use Rattle.image.specs.declared.chroma.Components.{Components}
use Rattle.image.specs.declared.chroma.Components.TheVariants.{CbAlone, Both}
use Rattle.image.specs.Inner.Tests.{Sound}
use Rattle.image.specs.Samples.{Plane}
use Rattle.image.specs.declared.chroma.Chroma.{Chroma}
use Rattle.image.specs.declared.chroma.Chroma.TheVariants.{Cb, Cr}
use Rattle.image.specs.Picture.{short_plane, Planes}

-- what is known of a layout and a chroma plane: the layout passed its tests, and the plane holds all cells
pub record ChromaCells (l : Layout) (p : Plane) : Type 0 where
  pub sound : Sound l
  pub plane : short_plane l l.cw l.ch p ≡ false

-- what is known of a layout and its three planes: each holds its samples, Cr's where both components are asked for
pub record Lent (l : Layout) (ps : Planes) (ks : Components) : Type 0 where
  pub sound : Sound l
  pub luma : short_plane l l.w l.h ps.y ≡ false
  pub cb : short_plane l l.cw l.ch ps.cb ≡ false
  pub cr : ks ≡ Both → short_plane l l.cw l.ch ps.cr ≡ false

-- the components that are asked for, in the order in which they are made
abbrev pub components_of : Components → List Chroma
components_of CbAlone = Cb ∷ []
components_of Both = Cb ∷ Cr ∷ []
