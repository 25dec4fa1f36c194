-- Single precision: whole numbers as floats, the operators, and a number's parts above and below zero. Definitions only.
-- The values and the operators, each rounded once, are the library's (lib.Ieee): `fin s m e` is the number m * up e / down e, negative where s is true.
use Rattle.std.specs.Prelude.{Bool, true, false, ℕ, pos, Float}
use Rattle.std.specs.Float.{binary32}
use Rattle.std.specs.Float.Ieee.{of_int, add, sub, mul, div}

-- the whole number n as an f32
abbrev pub f32 : ℕ → Float
f32 n = of_int binary32 (pos n)

-- the operators of single precision, each rounded once
infixl 60 ◌⊕◌ ◌⊖◌
infixl 70 ◌⊗◌ ◌⊘◌
abbrev pub ◌⊕◌ : Float → Float → Float
◌⊕◌ a b = add binary32 a b

abbrev pub ◌⊖◌ : Float → Float → Float
◌⊖◌ a b = sub binary32 a b

abbrev pub ◌⊗◌ : Float → Float → Float
◌⊗◌ a b = mul binary32 a b

abbrev pub ◌⊘◌ : Float → Float → Float
◌⊘◌ a b = div binary32 a b

-- the parts above and below zero of a number with the sign s and the size a
abbrev pub over : Bool → ℕ → ℕ
over false a = a
over true a = 0

abbrev pub under : Bool → ℕ → ℕ
under false a = 0
under true a = a
