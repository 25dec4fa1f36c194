-- A colour as the record that the kernels return. Definitions only.
use Rattle.std.specs.Prelude.{ℕ}
use Rattle.kernels.specs.Kernels.{Colour}

abbrev pub rgb : ℕ → ℕ → ℕ → Colour
rgb r g b = record { red = r; green = g; blue = b }
