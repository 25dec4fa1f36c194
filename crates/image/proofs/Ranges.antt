-- A layout in another range has that range, and all else as it was: `ranged` could be mistyped unseen, since reconstructed samples look at no range.
use Rattle.std.proofs.Common.{◌≡◌, refl}
use Rattle.image.specs.declared.layout.Layout.{Layout}
use Rattle.image.specs.declared.layout.Range.{Range}
use Rattle.image.specs.Picture.{Picture, ranged, picture_in}

pub ranged_range : (r : Range) (l : Layout) → (ranged r l).range ≡ r
unfolding ranged
ranged_range r l = refl

pub ranged_same : (l : Layout) → ranged l.range l ≡ l
unfolding ranged
ranged_same l = refl

pub picture_same : (p : Picture) → picture_in p.layout.range p ≡ p
unfolding picture_in ranged
picture_same p = refl
