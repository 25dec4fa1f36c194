-- Cells lerped across, and the pixels that are made of them: only the cells of the row are looked at.
use Rattle.std.proofs.Common.{◌≡◌, ap, ◌∙◌, ℕ, ◌/◌, ◌%◌, Float}
use Rattle.image.specs.declared.layout.Layout.{Layout}
use Rattle.taps.specs.declared.phases.Phase.{Phase}
use Rattle.taps.specs.Taps.{phase_of}
use Rattle.guided.specs.Guided.{across_to}
use Rattle.guided_pixels.specs.Inner.Across.{phased}

-- a pixel's phase is lerped at its own cell
pub across_is : (l : Layout) (g : ℕ → Float) (x : ℕ) (p : Phase) (v : Float) → p ≡ phase_of l.rh (x % l.rh) → v ≡ phased g l.cw p (x / l.rh) → v ≡ across_to l g x
unfolding across_to phased
across_is l g x p v e q = q ∙ ap (λ (u : Phase). phased g l.cw u (x / l.rh)) e
