-- 'Rounding' of document 01. Definitions only.
use Rattle.std.specs.Prelude.{Bool, true, false, not, ◌&&◌, cond, ℕ, ◌*◌, min, eqb, Float}
use Rattle.std.specs.Float.{nan, inf, fin, binary32}
use Rattle.std.specs.Float.Ieee.{up, down, lt, is_nan, to_bits}
use Rattle.laws.specs.Rounding.{half_up}

-- "The comparison forms of `fmin` and `fmax` (x86-64) are the reference": a < b ? a : b and a > b ? a : b
abbrev pub fmin : Float → Float → Float
fmin a b = cond (lt a b) a b

abbrev pub fmax : Float → Float → Float
fmax a b = cond (lt b a) a b

-- "not-a-number and anything at or below 0 give 0, anything above the limit gives the limit, the rest goes to the nearest whole number, halves up";
-- m * up e / down e is the number that `fin false m e` stands for
unfoldable pub round_clamped : ℕ → Float → ℕ
round_clamped limit nan = 0
round_clamped limit (inf true) = 0
round_clamped limit (inf false) = limit
round_clamped limit (fin true m e) = 0
round_clamped limit (fin false m e) = min limit (half_up (m * up e) (down e))

-- x and y are the same value: both not-a-number, or the same bits, by which -0 and 0 differ
unfoldable pub is_same_float : Float → Float → Bool
is_same_float x y = cond (is_nan x) (is_nan y) (not (is_nan y) && eqb (to_bits binary32 x) (to_bits binary32 y))
