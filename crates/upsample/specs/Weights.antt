-- One axis of 'Triangular' of document 01: the weights. Definitions only.
use Rattle.std.specs.Prelude.{Bool, cond, ℕ, ◌+◌, ◌-◌, ◌*◌, ◌/◌, ◌%◌, min, eqb}

abbrev pub even : ℕ → Bool
even o = eqb (o % 2) 0

-- "Far is the cell before at even positions, after at odd, edges repeated": position o of an axis of n cells
unfoldable pub far : ℕ → ℕ → ℕ
far n o = cond (even o) (o / 2 - 1) (min (o / 2 + 1) (n - 1))

-- "3·near + far" of the cells c of that axis
unfoldable pub weighed : ℕ → (ℕ → ℕ) → ℕ → ℕ
weighed n c o = 3 * c (o / 2) + c (far n o)

-- "One axis: (3·near + far + b) >> 2 with b = 1 at even and 2 at odd positions"
unfoldable pub one_axis : ℕ → (ℕ → ℕ) → ℕ → ℕ
one_axis n c o = (weighed n c o + cond (even o) 1 2) / 4
