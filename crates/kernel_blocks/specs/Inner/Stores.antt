-- A block of sixteen pixels and its channels, as the stores take them. Definitions only.
use Rattle.std.specs.Prelude.{List, [], ℕ, zero, suc, get_or}
use Rattle.kernels.specs.Kernels.{Colour}
use Rattle.kernels.specs.Inner.Kernels.{rgb}

-- entry k of row n
abbrev pub entry : List (List ℕ) → ℕ → ℕ → ℕ
entry rows n k = get_or (get_or rows n []) k 0

-- channel 0, 1 or 2 of a colour
abbrev pub channel : Colour → ℕ → ℕ
channel c zero = c.red
channel c (suc zero) = c.green
channel c (suc (suc n)) = c.blue

-- pixel k of a block's three rows
abbrev pub block_pixel : List (List ℕ) → ℕ → Colour
block_pixel rows k = rgb (entry rows 0 k) (entry rows 1 k) (entry rows 2 k)
