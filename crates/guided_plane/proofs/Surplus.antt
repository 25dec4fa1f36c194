-- "Any lent slice may be longer; its surplus is untouched": scratch after `guided_plane`, behind what the call needs.
use Rattle.std.proofs.Common.{◌≡◌, sym, ◌∙◌, List, [], ◌∷◌, ℕ, ◌≤◌, length, get_or, Float}
use lib.Ieee.{nan}
use Rattle.laws.specs.Refusals.{Answer, accepted}
use Rattle.laws.proofs.Refusals.{accepted_is}
use Rattle.image.specs.declared.chroma.Chroma.TheVariants.{Cb}
use Rattle.image.specs.declared.layout.Layout.{Layout}
use Rattle.image.specs.Picture.{picture_of}
use Rattle.image.specs.Samples.{Plane}
use Rattle.image.specs.Scratch.{scratch_need}
use Rattle.image.proofs.Surplus.{call_behind}
use Rattle.guided_rows.proofs.GuidedRows.{rows_behind}
use Rattle.guided_plane.specs.Plane.{picture_with, GuidedGiven}
use Rattle.guided_plane.proofs.PlaneRows.{ready}

pub guided_surplus : (l : Layout) (y c : Plane) (scratch : List Float) (out : List ℕ) {answer : Answer} {scratch' : List Float} {out' : List ℕ} → GuidedGiven l y c scratch out answer scratch' out'
    → (i : ℕ) → scratch_need l ≤ i → get_or scratch' i nan ≡ get_or scratch i nan
unfolding picture_of
guided_surplus l y c scratch out {answer} {scratch'} g =
    call_behind l (accepted answer) scratch _ scratch' g.scratches
    (λ e. rows_behind (picture_with l y c) (ready l y c (length scratch) (length out) (sym g.answers ∙ accepted_is answer e)).0.sound.cw_most (Cb ∷ []) 0 l.h scratch)
