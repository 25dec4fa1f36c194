-- Chroma and its offsets in single precision. Definitions only.
use Rattle.std.specs.Prelude.{◌≡◌, true, false, ℕ, ◌≤◌, ℤ, pos, negsuc, ◌-ℤ◌, Float}
use Rattle.std.specs.Float.{fin, binary32}
use Rattle.std.specs.Float.Ieee.{to_bits}
use Rattle.laws.specs.Floats.{f32, ◌⊕◌, ◌⊖◌, ◌⊗◌}
use Rattle.kernels.specs.Inner.Forms.{Biased}

-- x is the chroma c, in 256ths, less its centre
pub record Centred (x : Float) (c : ℕ) : Type 0 where
  pub most : c ≤ 65536
  pub is : x ≡ f32 c ⊖ f32 32768

-- x is the float of some chroma
abbrev pub Chroma : Float → Type 0
Chroma x = (c : ℕ) × Centred x c

-- 1.402 and 1.772 to the nearest float
abbrev pub red1402 : Float
red1402 = fin false 2940207 (negsuc 20)

abbrev pub blue1772 : Float
blue1772 = fin false 14864613 (negsuc 22)

-- what is added to send halves up: 3/1024 for blue; red has none, and -0 changes nothing
abbrev pub blue_tie : Float
blue_tie = fin false 3 (negsuc 9)

abbrev pub no_tie : Float
no_tie = fin true 0 (pos 0)

-- the float that red or blue multiplies chroma by, what sends its halves up, and its multiplier in thousandths
pub data Multiplier : Float → Float → ℕ → Type 0 where
  for_red : Multiplier red1402 no_tie 1402
  for_blue : Multiplier blue1772 blue_tie 1772

-- k and tie are red's or blue's
abbrev pub IsMultiplier : Float → Float → Type 0
IsMultiplier k tie = (m : ℕ) × Multiplier k tie m

-- 1.5 * 2 ^ 31, where floats are 256 apart. A sum with it has the bits 1,329,594,368 and the nearest multiple of 256 on top
abbrev pub middle : Float
middle = fin false 3 (pos 30)

-- r is the offset z plus the bits of `middle`; no offset passes 227
pub record OnGrid (z : ℤ) (r : ℕ) : Type 0 where
  pub is : Biased z 1329594368 r
  pub most : r ≤ 1329594595

-- z is the luma y less the bits of `middle`, so that its sum with an offset on the grid is luma and the offset
pub record Lowered (z : ℤ) (y : ℕ) : Type 0 where
  pub most : y ≤ 65535
  pub is : z ≡ pos y -ℤ pos 1329594368

-- z is some luma, lowered so
abbrev pub Luma : ℤ → Type 0
Luma z = (y : ℕ) × Lowered z y

-- what green takes from luma, in 256ths: 202008 / 587000 and 419198 / 587000 to the nearest float
abbrev pub green_taken : Float → Float → Float
green_taken cb cr = fin false 5773649 (negsuc 23) ⊗ cb ⊕ fin false 11981219 (negsuc 23) ⊗ cr

-- 1/32, added or taken away: more than the roundings on the way to green's offset amount to
abbrev pub margin : Float
margin = fin false 1 (negsuc 4)

abbrev pub less_margin : Float
less_margin = fin true 1 (negsuc 4)

pub data Margin : Float → Type 0 where
  added : Margin margin
  taken : Margin less_margin

-- the bits of green's offset with a margin t
unfoldable pub green_bits : Float → Float → Float → ℕ
green_bits cb cr t = to_bits binary32 (middle ⊖ (green_taken cb cr ⊕ t))

-- both margins round alike, so that no half is near
abbrev pub Sure : Float → Float → Type 0
Sure cb cr = green_bits cb cr margin ≡ green_bits cb cr less_margin
