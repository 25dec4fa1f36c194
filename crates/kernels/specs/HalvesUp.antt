-- Rounding a fraction of whole numbers below zero too, halves up, as document 01 has it for the kernels. Definitions only.
use Rattle.std.specs.Prelude.{ℕ, ◌*◌, ℤ, pos, ◌+ℤ◌, ◌*ℤ◌}
use Rattle.laws.specs.Differences.{floor_div}

-- "rnd(q) is the floor of q + 1/2", of q = n / d: the floor of (2n + d) / (2d)
unfoldable pub rnd : ℤ → ℕ → ℤ
rnd n d = floor_div (pos 2 *ℤ n +ℤ pos d) (2 * d)
