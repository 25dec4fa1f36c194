-- Pixels of four bytes as words. Definitions only.
use Rattle.std.specs.Prelude.{◌≡◌, ℕ, ◌+◌, ◌*◌, ◌<◌}
use Rattle.kernels.specs.Kernels.{Colour}

-- w has the bytes of a colour and a fourth one
pub record Word (w : ℕ) (c : Colour) (fourth : ℕ) : Type 0 where
  pub is : w ≡ c.red + 256 * c.green + 65536 * c.blue + 16777216 * fourth
  pub red : c.red < 256
  pub green : c.green < 256
  pub blue : c.blue < 256
  pub last : fourth < 256
