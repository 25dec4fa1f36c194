-- Refusal 21 of document 02's W13: "luma samples that differ, or chroma that differs outside the rectangle". Padding, surplus and strides don't
-- matter. Definitions only.
use Rattle.std.specs.Prelude.{Bool, ◌&&◌, ◌||◌, not, ℕ, eqb}
use Rattle.image.specs.declared.layout.Layout.{Layout}
use Rattle.image.specs.declared.rectangle.Rectangle.{Rectangle}
use Rattle.image.specs.Samples.{Plane, sample_at}
use Rattle.image.specs.Picture.{Planes}
use Rattle.image.specs.Limits.{any_of}
use Rattle.image.specs.Rectangles.{holds_cell}

-- column x of row y differs between two planes
unfoldable pub sample_differs : Layout → Plane → Plane → ℕ → ℕ → Bool
sample_differs l p q x y = not (eqb (sample_at l.sample_bytes p y x) (sample_at l.sample_bytes q y x))

-- "luma samples that differ": one of w columns and h rows
unfoldable pub differs : Layout → ℕ → ℕ → Plane → Plane → Bool
differs l w h p q = any_of h (λ y. any_of w (λ x. sample_differs l p q x y))

-- "chroma that differs outside the rectangle": a cell of the plane that isn't the rectangle's
unfoldable pub differs_outside : Layout → Rectangle → Plane → Plane → Bool
differs_outside l r p q = any_of l.ch (λ j. any_of l.cw (λ i. not (holds_cell r i j) && sample_differs l p q i j))

-- 21, for the planes before and after the change
unfoldable pub other_change : Layout → Rectangle → Planes → Planes → Bool
other_change l r old new = differs l l.w l.h old.y new.y || (differs_outside l r old.cb new.cb || differs_outside l r old.cr new.cr)
