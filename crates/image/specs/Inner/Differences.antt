-- What the contracts of the functions that compare planes mean: rectangles of samples, and the four parts of a chroma plane round one. Definitions only.
use Rattle.std.specs.Prelude.{Bool, cond, ℕ, ◌+◌, ◌-◌, ◌*◌, ◌≤◌, ◌<◌, length}
use Rattle.image.specs.declared.layout.Layout.{Layout}
use Rattle.image.specs.declared.rectangle.Rectangle.{Rectangle}
use Rattle.image.specs.Samples.{Plane}
use Rattle.image.specs.Limits.{any_of}
use Rattle.image.specs.Rectangles.{is_empty}
use Rattle.image.specs.Differences.{sample_differs}

-- a sample of a rectangle differs
unfoldable pub differs_in : Layout → Rectangle → Plane → Plane → Bool
differs_in l r p q = any_of r.height (λ j. any_of r.width (λ i. sample_differs l p q (r.left + i) (r.top + j)))

-- the rectangle's rows, up to its last column, lie within a plane
pub record Reaches (l : Layout) (r : Rectangle) (p : Plane) : Type 0 where
  pub last : r.top + r.height ≤ 8192
  pub rows : (y : ℕ) → y < r.top + r.height → y * p.stride + (r.left + r.width) * l.sample_bytes ≤ length p.bytes

-- an empty rectangle, wherever it lies, as the one at 0
abbrev pub nothing : Rectangle
nothing = record { left = 0; top = 0; width = 0; height = 0 }

unfoldable pub trimmed_of : Rectangle → Rectangle
trimmed_of r = cond (is_empty r) nothing r

-- the rectangle's last cell lies within the chroma plane
pub record InCells (l : Layout) (r : Rectangle) : Type 0 where
  pub across : r.left + r.width ≤ l.cw
  pub down : r.top + r.height ≤ l.ch

-- the four parts of the chroma plane round it: whole rows above and below, and of its own rows what lies left and right of it
abbrev pub rows_above : Layout → Rectangle → Rectangle
rows_above l r = record { left = 0; top = 0; width = l.cw; height = r.top }

abbrev pub rows_below : Layout → Rectangle → Rectangle
rows_below l r = record { left = 0; top = r.top + r.height; width = l.cw; height = l.ch - (r.top + r.height) }

abbrev pub left_part : Rectangle → Rectangle
left_part r = record { left = 0; top = r.top; width = r.left; height = r.height }

abbrev pub right_part : Layout → Rectangle → Rectangle
right_part l r = record { left = r.left + r.width; top = r.top; width = l.cw - (r.left + r.width); height = r.height }
