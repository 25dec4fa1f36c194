-- Whole numbers below zero too, as differences of two natural numbers, which `omega` reads. Definitions only.
use Rattle.std.specs.Prelude.{ℕ, ◌-◌, ◌/◌, min, ℤ, pos, negsuc}

-- the floor of z / d
unfoldable pub floor_div : ℤ → ℕ → ℤ
floor_div (pos n) d = pos (n / d)
floor_div (negsuc n) d = negsuc (n / d)

-- z limited to 0 .. top
unfoldable pub limit : ℕ → ℤ → ℕ
limit top (pos n) = min n top
limit top (negsuc n) = 0

-- z limited to -r .. r, for an r above 0
unfoldable pub within : ℕ → ℤ → ℤ
within r (pos n) = pos (min n r)
within r (negsuc n) = negsuc (min n (r - 1))
