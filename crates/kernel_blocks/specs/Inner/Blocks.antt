-- "blocks of sixteen pixels, three colour rows each": what is said of a block of n pixels, where n is `Block::LEN` in the contracts. Definitions only.
use Rattle.std.specs.Prelude.{◌≡◌, List, ℕ, ◌<◌, get_or, ℤ, pos, Float}
use Rattle.std.specs.Int.Signed.{mag}
use Rattle.std.specs.Float.{nan}
use Rattle.kernels.specs.Kernels.{exact255}
use Rattle.kernel_blocks.specs.Inner.Stores.{entry}
use Rattle.kernels.specs.Inner.Forms.{plus_chroma}
use Rattle.kernel_blocks.specs.Inner.Floating.{Centred, Chroma, Lowered, Luma, Multiplier}

-- v is red or blue of the exact kernel, of the luma that y is lowered from and the chroma that x is
pub record ChromaByte (k tie : Float) (y : ℤ) (x : Float) (v : ℕ) : Type 0 where
  pub is : (m l c : ℕ) → Multiplier k tie m → Lowered y l → Centred x c → v ≡ plus_chroma m l c

-- v is green of it
pub record GreenByte (y : ℤ) (cb cr : Float) (v : ℕ) : Type 0 where
  pub is : (l b r : ℕ) → Lowered y l → Centred cb b → Centred cr r → v ≡ (exact255 l b r).green

-- row 0 is red, row 1 green, row 2 blue, of the exact kernel at each pixel; chroma as floats, centred
pub record BlockOf (n : ℕ) (rows : List (List ℕ)) (y : List ℕ) (cb cr : List Float) : Type 0 where
  pub red : (k : ℕ) → k < n → (b r : ℕ) → Centred (get_or cb k nan) b → Centred (get_or cr k nan) r
      → entry rows 0 k ≡ (exact255 (get_or y k 0) b r).red
  pub green : (k : ℕ) → k < n → (b r : ℕ) → Centred (get_or cb k nan) b → Centred (get_or cr k nan) r
      → entry rows 1 k ≡ (exact255 (get_or y k 0) b r).green
  pub blue : (k : ℕ) → k < n → (b r : ℕ) → Centred (get_or cb k nan) b → Centred (get_or cr k nan) r
      → entry rows 2 k ≡ (exact255 (get_or y k 0) b r).blue

-- the chroma of a block within the limits that rounding puts on it
abbrev pub InLimits : ℕ → List Float → List Float → Type 0
InLimits n cb cr = (k : ℕ) → k < n → Chroma (get_or cb k nan) × Chroma (get_or cr k nan)

-- those samples of a block, its luma lowered below the bits of `middle`
abbrev pub Pixels : ℕ → List ℤ → List Float → List Float → Type 0
Pixels n y cb cr = (k : ℕ) → k < n → Luma (get_or y k (pos 0)) × Chroma (get_or cb k nan) × Chroma (get_or cr k nan)

-- the row is green of the exact kernel at each pixel of a block
abbrev pub Greens : ℕ → List ℕ → List ℤ → List Float → List Float → Type 0
Greens n row y cb cr = (k : ℕ) → k < n → (l b r : ℕ)
    → Lowered (get_or y k (pos 0)) l → Centred (get_or cb k nan) b → Centred (get_or cr k nan) r
    → get_or row k 0 ≡ (exact255 l b r).green

-- the fixed kernel's offsets and parts: whole numbers of 25 bits with their sign, so that the sums of two and of luma fit 32
abbrev pub Small : ℤ → Type 0
Small z = mag z < 16777216
