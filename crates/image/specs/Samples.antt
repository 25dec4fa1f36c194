-- The samples of a plane. Definitions only.
use Rattle.image.specs.declared.plane.Plane.{Plane as Lent}
use Rattle.std.specs.Prelude.{cond, List, ℕ, ◌+◌, ◌*◌, eqb, get_or}

-- the sample whose first byte stands at `at`: one byte, or two, "little-endian in planes"
unfoldable pub sample_of : ℕ → List ℕ → ℕ → ℕ
sample_of bytes plane at = cond (eqb bytes 1) (get_or plane at 0) (get_or plane at 0 + 256 * get_or plane (at + 1) 0)

-- a lent plane: its bytes, and how far apart its rows begin
pub record Plane : Type 0 where
  pub bytes : List ℕ
  pub stride : ℕ

-- the plane that a call is lent
abbrev pub seen : Lent → Plane
seen p = record { bytes = p.bytes.now; stride = p.stride }

-- the plane that a call is lent as a slice and its stride
abbrev pub plane_of : List ℕ → ℕ → Plane
plane_of bytes stride = record { bytes = bytes; stride = stride }

-- where row y, column x begins
abbrev pub place : ℕ → ℕ → ℕ → ℕ → ℕ
place bytes stride y x = y * stride + x * bytes

-- the sample of row y, column x
unfoldable pub sample_at : ℕ → Plane → ℕ → ℕ → ℕ
sample_at bytes p y x = sample_of bytes p.bytes (place bytes p.stride y x)
