-- What the inner forms give, red and blue as one over their multiplier. Definitions only.
use Rattle.std.specs.Prelude.{◌≡◌, ◌≢◌, ℕ, ◌+◌, ◌-◌, ◌*◌, ◌/◌, ◌<◌, ◌≤◌, ℤ, pos, ◌+ℤ◌, ◌*ℤ◌}
use Rattle.laws.specs.Differences.{floor_div, limit}
use Rattle.kernels.specs.declared.bytes.Rgb.{Rgb}
use Rattle.kernels.specs.HalvesUp.{rnd}
use Rattle.kernels.specs.Kernels.{Colour, centred, off_centre, less128}
use Rattle.kernels.specs.T871.{less16}

-- three bytes as a colour
abbrev pub colour_of : Rgb → Colour
colour_of p = record { red = p.r; green = p.g; blue = p.b }

-- ---- exact kernel, maxval 255: `red_offset` is `chroma_offset 1402`, `blue_offset` is `chroma_offset 1772`

unfoldable pub chroma_offset : ℕ → ℤ → ℤ
chroma_offset k c = rnd (pos k *ℤ c) 256000

-- red or blue of a pixel
unfoldable pub plus_chroma : ℕ → ℕ → ℕ → ℕ
plus_chroma k y c256 = limit 255 (pos y +ℤ chroma_offset k (centred c256))

-- r is the offset z plus its bias, and no offset is further from 0 than the bias
pub record Biased (z : ℤ) (bias r : ℕ) : Type 0 where
  pub is : pos r ≡ z +ℤ pos bias
  pub fits : r ≤ 2 * bias

-- a multiplier and a bias that suit each other, with numbers of 32 bits: 1402 and 180, 1772 and 227
pub record Suits (k bias : ℕ) : Type 0 where
  pub red : k ≡ 1402 → bias ≡ 180
  pub blue : k ≢ 1402 → (k ≡ 1772) × (bias ≡ 227)
  pub multiplier : k ≤ 1772
  pub bias_most : bias ≤ 227
  pub enough : 32768 * k < 256000 * bias + 128000

-- the numerator of an offset, over 256,000, raised by its bias and a half
abbrev pub raised : ℕ → ℕ → ℕ → ℕ
raised k bias c256 = k * c256 + (256000 * bias + 128000 - 32768 * k)

-- ---- exact kernel, other maxval d: red or blue of a pixel

unfoldable pub chroma_at : ℕ → ℕ → ℕ → ℕ → ℕ
chroma_at k d y c256 = limit 255 (rnd (pos 255 *ℤ (pos (256000 * y) +ℤ pos k *ℤ off_centre d c256)) (256000 * d))

-- ---- studio range: red or blue of a pixel, over 219 · 224 · 256,000

unfoldable pub studio_chroma : ℕ → ℕ → ℕ → ℕ
studio_chroma k y c256 = limit 255 (rnd (pos 255 *ℤ (pos (224 * 256000) *ℤ less16 y +ℤ pos (219 * k) *ℤ centred c256)) (219 * 224 * 256000))

-- ---- fixed kernel: `fixed_red` is `fixed_offset 91881`, `fixed_blue` is `fixed_offset 116130`

unfoldable pub fixed_offset : ℕ → ℕ → ℤ
fixed_offset k c = floor_div (pos k *ℤ less128 c +ℤ pos 32768) 65536

-- an offset raised by its bias, over natural numbers: the half and the centre are in the sum
abbrev pub raised_fixed : ℕ → ℕ → ℕ → ℕ
raised_fixed k bias c = (k * c + (65536 * bias + 32768 - 128 * k)) / 65536

unfoldable pub plus_fixed : ℕ → ℕ → ℕ → ℕ
plus_fixed k y c = limit 255 (pos y +ℤ fixed_offset k c)
