-- The phase fractions of ratios 1 to 4, one line each, so that they can be checked with a pencil. Statements only.
use Rattle.std.specs.Prelude.{◌≡◌, Bool, true, false, List, [], ◌∷◌, ℕ}
use Rattle.std.specs.Float.{binary32}
use Rattle.std.specs.Float.Ieee.{of_bits}
use Rattle.std.specs.Float.Ieee.Exact.{HasValue}
use Rattle.taps.specs.Taps.{fraction_of, phase_of}

-- a pixel of a cell at a ratio goes num / den of the way, from the left neighbour or to the right one; bits are the float's
pub record PhaseFraction : Type 0 where
  pub ratio : ℕ
  pub pixel : ℕ
  pub left : Bool
  pub num : ℕ
  pub den : ℕ
  pub bits : ℕ

abbrev pub at : ℕ → ℕ → Bool → ℕ → ℕ → ℕ → PhaseFraction
at ratio pixel left num den bits = record { ratio = ratio; pixel = pixel; left = left; num = num; den = den; bits = bits }

abbrev pub from_left : Bool
from_left = true

abbrev pub to_right : Bool
to_right = false

-- "one for ratio 1, two for 2, three for 3, four for 4": ratio, pixel, side, numerator, denominator, bits
unfoldable pub ten_fractions : List PhaseFraction
ten_fractions =
    at 1 0 to_right 0 2 0x0000_0000
    ∷ at 2 0 from_left 3 4 0x3f40_0000
    ∷ at 2 1 to_right 1 4 0x3e80_0000
    ∷ at 3 0 from_left 4 6 0x3f2a_aaab
    ∷ at 3 1 to_right 0 6 0x0000_0000
    ∷ at 3 2 to_right 2 6 0x3eaa_aaab
    ∷ at 4 0 from_left 5 8 0x3f20_0000
    ∷ at 4 1 from_left 7 8 0x3f60_0000
    ∷ at 4 2 to_right 1 8 0x3e00_0000
    ∷ at 4 3 to_right 3 8 0x3ec0_0000
    ∷ []

-- "equal, bit for bit, to document 01's fraction divided once in f32": document 01's phase has that side and that fraction
pub record Divided (t : PhaseFraction) : Type 0 where
  pub phase : phase_of t.ratio t.pixel ≡ record { left = t.left; f = fraction_of t.num t.den }
  pub bits : fraction_of t.num t.den ≡ of_bits binary32 t.bits

-- "those of ratios 1, 2 and 4 to the fraction itself, unrounded": the float is num / den, not negative
unfoldable pub Unrounded : PhaseFraction → Type 0
Unrounded t = (t.ratio ≡ 3 → ⊥) → HasValue (of_bits binary32 t.bits) false t.num t.den

unfoldable pub Each : (PhaseFraction → Type 0) → List PhaseFraction → Type 0
Each P [] = Unit {0}
Each P (t ∷ ts) = P t × Each P ts

pub record PhaseClaims : Type 0 where
  pub divided : Each Divided ten_fractions
  pub unrounded : Each Unrounded ten_fractions
