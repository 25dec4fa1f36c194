-- The colour of a pixel, as the kernels are handed its samples.
use Rattle.std.proofs.Common.{◌≡◌, refl, ◌≢◌, false, List, ℕ, zero-add, eqb, get_or, Float, ne_eqb}
use lib.Ieee.{nan}
use Rattle.laws.specs.Floats.{f32, ◌⊗◌}
use Rattle.image.specs.declared.layout.Range.{Range}
use Rattle.image.specs.declared.layout.Range.TheVariants.{Full, Studio}
use Rattle.image.specs.Samples.{sample_at, seen}
use Rattle.fround.specs.Rounding.{round_clamped}
use Rattle.image.specs.Scratch.{cell_at}
use Rattle.kernels.specs.Kernels.{Colour, exact255, exact_at, fixed255}
use Rattle.kernels.specs.T871.{studio255}
use Rattle.kernels.specs.Pixels.{exact_colour}
use Rattle.colour_rows.specs.Colours.{limit256, chroma256, whole_chroma, colour_by, studio_by, colour_in}
use Rattle.colour_rows.specs.Inner.Colours.{lent_pixel, lent_row, ranged_pixel, ranged_row}
use Rattle.colour_rows.specs.declared.lent.LentRow.{LentRow}
use Rattle.kernels.specs.declared.kernel.YcbcrKernel.{YcbcrKernel}
use Rattle.kernels.specs.declared.kernel.YcbcrKernel.TheVariants.{Exact, FixedPoint16}

module _ (y : ℕ) (b r : Float) {cb cr : ℕ} where
  -- the exact kernel at maxval 255
  pub exact_by : cb ≡ round_clamped 65536 (b ⊗ f32 256) → cr ≡ round_clamped 65536 (r ⊗ f32 256) → exact255 y cb cr ≡ colour_by Exact 255 y b r
  unfolding colour_by chroma256 limit256 exact_colour
  exact_by p q = rw (p, q) refl

  -- the exact kernel at another maxval
  pub scaled_by : (d : ℕ) → d ≢ 255 → cb ≡ round_clamped 16776960 (b ⊗ f32 256) → cr ≡ round_clamped 16776960 (r ⊗ f32 256) → exact_at d y cb cr ≡ colour_by Exact d y b r
  unfolding colour_by chroma256 limit256 exact_colour
  scaled_by d n p q = let z : eqb d 255 ≡ false = ne_eqb d 255 n in rw (z, p, q) refl

  -- the fixed kernel
  pub fixed_by : (d : ℕ) → cb ≡ round_clamped 255 b → cr ≡ round_clamped 255 r → fixed255 y cb cr ≡ colour_by FixedPoint16 d y b r
  unfolding colour_by whole_chroma
  fixed_by d p q = rw (p, q) refl

  -- studio range
  pub studio_by_is : cb ≡ round_clamped 65536 (b ⊗ f32 256) → cr ≡ round_clamped 65536 (r ⊗ f32 256) → studio255 y cb cr ≡ studio_by y b r
  unfolding studio_by chroma256 limit256
  studio_by_is p q = rw (p, q) refl

-- in a lent row: luma of the plane, Cb from the row at the front of scratch and Cr from the one at w
module _ (colour : ℕ → Float → Float → Colour) (t : LentRow) (x : ℕ) {y : ℕ} (e : y ≡ sample_at t.layout.sample_bytes (seen t.plane) t.row x) where
  pub in_row : colour y (cell_at t.s.now 0 x) (cell_at t.s.now t.layout.w x) ≡ lent_pixel colour t x
  unfolding lent_pixel
  in_row = rw e refl

  pub in_row_read : colour y (get_or t.s.now x nan) (cell_at t.s.now t.layout.w x) ≡ lent_pixel colour t x
  in_row_read = rw zero-add at in_row

-- the colour in a range
module _ {r : Range} (kernel : YcbcrKernel) (d : ℕ) where
  pub full_is : r ≡ Full → colour_by kernel d ≡ colour_in r kernel d
  unfolding colour_in
  full_is e = rw e refl

  pub exact_is : r ≡ Full → kernel ≡ Exact → d ≡ 255 → colour_by Exact 255 ≡ colour_in r kernel d
  unfolding colour_in
  exact_is e k m = rw (e, k, m) refl

  pub fixed_is : r ≡ Full → kernel ≡ FixedPoint16 → colour_by FixedPoint16 255 ≡ colour_in r kernel d
  unfolding colour_in colour_by
  fixed_is e k = rw (e, k) refl

  pub studio_is : r ≡ Studio → studio_by ≡ colour_in r kernel d
  unfolding colour_in
  studio_is e = rw e refl

-- a row in the layout's range
pub ranged_row_is : (kernel : YcbcrKernel) (t : LentRow) (at size : ℕ) (out : List ℕ) → lent_row (colour_in t.layout.range kernel t.layout.maxval) t at size out ≡ ranged_row kernel t.layout (seen t.plane) t.row t.s.now at size out
unfolding lent_row lent_pixel ranged_row ranged_pixel
ranged_row_is kernel t at size out = refl
