-- What the inner functions read and write of a row, as their contracts say it. Definitions only.
use Rattle.std.specs.Prelude.{◌≡◌, false, cond, List, ℕ, ◌+◌, ◌*◌, ◌/◌, ◌≤◌, ◌<◌, length}
use Rattle.image.specs.declared.layout.Layout.{Layout}
use Rattle.image.specs.Inner.Tests.{Sound}
use Rattle.image.specs.Picture.{short_plane}
use Rattle.image.specs.Samples.{Plane, sample_of}
use Rattle.upsample.specs.Triangular.{bad_triangular}
use Rattle.upsample.specs.Weights.{even, weighed}
use Rattle.upsample.specs.declared.axes.Bias.{Bias}
use Rattle.upsample.specs.declared.rows.CellRows.{CellRows}

-- the cells of the row that begins at byte `row`
abbrev pub cells : ℕ → List ℕ → ℕ → ℕ → ℕ
cells bytes plane row i = sample_of bytes plane (row + i * bytes)

-- the vertical sums of two rows of cells
abbrev pub sums : ℕ → CellRows → ℕ → ℕ
sums bytes r i = 3 * cells bytes r.bytes.now r.near i + cells bytes r.bytes.now r.far i

-- output x of a row at ratio (1,2), from vertical sums c
unfoldable pub down_row : (ℕ → ℕ) → ℕ → ℕ → ℕ
down_row c bias x = (c x + bias) / 4

-- output x of a row at ratio (2,2) or (2,1), from n vertical sums c
unfoldable pub across_row : Bias → ℕ → (ℕ → ℕ) → ℕ → ℕ
across_row b n c x = (weighed n c x + cond (even x) b.left b.right) / 16

-- a bias that is at most 8, so that nothing passes 16 bits where sums of bytes are weighed
pub record Small (b : Bias) : Type 0 where
  pub left : b.left ≤ 8
  pub right : b.right ≤ 8

-- two rows of n samples of one or two bytes, both of which lie within the bytes of their plane
pub record RowsInside (bytes n : ℕ) (r : CellRows) : Type 0 where
  pub one : 1 ≤ bytes
  pub two : bytes ≤ 2
  pub near : r.near + n * bytes ≤ length r.bytes.now
  pub far : r.far + n * bytes ≤ length r.bytes.now

-- w outputs of cw cells, two of each but for the last, which may have one
pub record Doubled (cw w : ℕ) : Type 0 where
  pub wide : 2 < cw
  pub least : 2 * cw ≤ w + 1
  pub most : w ≤ 2 * cw

-- what a call that was accepted has been handed
pub record Taken (l : Layout) (p : Plane) (room : ℕ) : Type 0 where
  pub size : Sound l
  pub kind : bad_triangular l ≡ false
  pub plane : short_plane l l.cw l.ch p ≡ false
  pub output : l.w * l.h ≤ room
