-- The steps of a rounding: the limited value, and what a rounding promises to its callers. Definitions only.
use Rattle.std.specs.Prelude.{◌≡◌, false, ℕ, ◌≤◌, pos, Float}
use Rattle.std.specs.Float.{fin}
use Rattle.laws.specs.Floats.{f32, ◌⊕◌, ◌⊖◌}
use Rattle.fround.specs.Rounding.{fmin, fmax, round_clamped}

-- 0.0
abbrev pub origin : Float
origin = fin false 0 (pos 0)

-- x limited to 0 .. max by `fmax` and `fmin`, by which a not-a-number gives 0
abbrev pub clamped : ℕ → Float → Float
clamped max x = fmin (fmax x origin) (f32 max)

-- the larger of two sums on the grid, of c and of c + 1, 1 less again: 2 ^ 23, 2 ^ 23 + 1, 1
abbrev pub higher : Float → Float
higher c = fmax (c ⊕ fin false 1 (pos 23)) (c ⊕ fin false 8388609 (pos 0) ⊖ fin false 1 (pos 0))

-- what both roundings promise; `within` follows from `is` and spares callers the law
pub record Rounded (limit : ℕ) (x : Float) (r : ℕ) : Type 0 where
  pub is : r ≡ round_clamped limit x
  pub within : r ≤ limit
