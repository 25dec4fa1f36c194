-- Studio range in single precision, in 256ths: what is added to luma is 36 / 219 of it less 4080 / 219, and chroma's part. Definitions only.
use Rattle.std.specs.Prelude.{◌≡◌, false, List, ℕ, ◌<◌, ◌≤◌, negsuc, get_or, Float}
use Rattle.std.specs.Float.{nan, fin, binary32}
use Rattle.std.specs.Float.Ieee.{to_bits}
use Rattle.laws.specs.Floats.{f32, ◌⊕◌, ◌⊖◌, ◌⊗◌}
use Rattle.kernels.specs.T871.{studio255}
use Rattle.kernels.specs.Inner.Forms.{studio_chroma}
use Rattle.kernel_blocks.specs.Inner.Stores.{entry}
use Rattle.kernel_blocks.specs.Inner.Floating.{Centred, middle}

-- 256 · 36 / 219 to the nearest float
abbrev pub luma_slope : Float
luma_slope = fin false 5515797 (negsuc 16)

-- 256 · 4080 / 219 = 4769.315.., less a margin and with one: 4769 + 71/256 and 4769 + 91/256. The margins are more than the roundings on the way amount to
abbrev pub less_shift : Float
less_shift = fin false 1220935 (negsuc 7)

abbrev pub more_shift : Float
more_shift = fin false 1220955 (negsuc 7)

-- a shift, and its 256ths
pub data Shift : Float → ℕ → Type 0 where
  by_less : Shift less_shift 1220935
  by_more : Shift more_shift 1220955

-- luma's part
unfoldable pub luma_part : Float → ℕ → Float
luma_part t l = luma_slope ⊗ f32 l ⊖ t

-- u is the part of the luma l by the shift t; from 511 on every colour is 255
pub record Part (t u : Float) (l : ℕ) : Type 0 where
  pub most : l ≤ 511
  pub is : u ≡ luma_part t l

-- 1.402 · 255 / 224 and 1.772 · 255 / 224 to the nearest float
abbrev pub tone_red : Float
tone_red = fin false 13388443 (negsuc 22)

abbrev pub tone_blue : Float
tone_blue = fin false 8460885 (negsuc 21)

-- a colour's multiplier, and in thousandths of full range's
pub data Tone : Float → ℕ → Type 0 where
  of_red : Tone tone_red 1402
  of_blue : Tone tone_blue 1772

abbrev pub Toned : Float → Type 0
Toned k = (m : ℕ) × Tone k m

-- the bits of what red or blue adds to luma
unfoldable pub tone_bits : Float → Float → Float → ℕ
tone_bits k u x = to_bits binary32 (middle ⊕ (u ⊕ k ⊗ x))

-- what green takes: 202008 / 587000 · 255 / 224 and 419198 / 587000 · 255 / 224 to the nearest float
abbrev pub fall : Float → Float → Float
fall cb cr = fin false 13145361 (negsuc 24) ⊗ cb ⊕ fin false 6819667 (negsuc 22) ⊗ cr

unfoldable pub fall_bits : Float → Float → Float → ℕ
fall_bits u cb cr = to_bits binary32 (middle ⊕ (u ⊖ fall cb cr))

-- u is some luma's part
abbrev pub Parted : Float → Type 0
Parted u = (t : Float) × (n : ℕ) × (l : ℕ) × Shift t n × Part t u l

-- both shifts give the same, so that no half is near
abbrev pub ToneSure : Float → Float → ℕ → Type 0
ToneSure k x l = tone_bits k (luma_part less_shift l) x ≡ tone_bits k (luma_part more_shift l) x

abbrev pub FallSure : Float → Float → ℕ → Type 0
FallSure x y l = fall_bits (luma_part less_shift l) x y ≡ fall_bits (luma_part more_shift l) x y

-- what the rows of a block have of luma: itself, and its two parts
abbrev pub Parts : ℕ → Float → Float → Type 0
Parts l less more = Part less_shift less l × Part more_shift more l

-- v is red or blue of a pixel of luma l in studio range, m being the multiplier's thousandths in full range
pub record ToneByte (m l : ℕ) (x : Float) (v : ℕ) : Type 0 where
  pub is : (c : ℕ) → Centred x c → v ≡ studio_chroma m l c

-- v is green of it
pub record FallByte (l : ℕ) (cb cr : Float) (v : ℕ) : Type 0 where
  pub is : (b r : ℕ) → Centred cb b → Centred cr r → v ≡ (studio255 l b r).green

-- row 0 is red, row 1 green, row 2 blue, of the exact kernel in studio range at each pixel; chroma as floats, centred
pub record StudioBlock (n : ℕ) (rows : List (List ℕ)) (y : List ℕ) (cb cr : List Float) : Type 0 where
  pub red : (k : ℕ) → k < n → (b r : ℕ) → Centred (get_or cb k nan) b → Centred (get_or cr k nan) r → entry rows 0 k ≡ (studio255 (get_or y k 0) b r).red
  pub green : (k : ℕ) → k < n → (b r : ℕ) → Centred (get_or cb k nan) b → Centred (get_or cr k nan) r → entry rows 1 k ≡ (studio255 (get_or y k 0) b r).green
  pub blue : (k : ℕ) → k < n → (b r : ℕ) → Centred (get_or cb k nan) b → Centred (get_or cr k nan) r → entry rows 2 k ≡ (studio255 (get_or y k 0) b r).blue
