-- Rounding a fraction of natural numbers, halves up. Definitions only.
use Rattle.std.specs.Prelude.{ℕ, ◌+◌, ◌*◌, ◌/◌}

-- rnd(n / d): "the floor of q + 1/2" at q = n / d
abbrev pub half_up : ℕ → ℕ → ℕ
half_up n d = (2 * n + d) / (2 * d)
