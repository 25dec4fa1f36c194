-- 'The colour of one pixel' of document 01. Definitions only.
use Rattle.std.specs.Prelude.{ℕ, ◌+◌, ◌*◌, ◌/◌, ℤ, pos, neg_ℤ, ◌+ℤ◌, ◌-ℤ◌, ◌*ℤ◌}
use Rattle.laws.specs.Differences.{floor_div, limit, within}
use Rattle.kernels.specs.HalvesUp.{rnd}

-- a colour: red, green, blue
pub record Colour : Type 0 where
  pub red : ℕ
  pub green : ℕ
  pub blue : ℕ

-- ---- exact kernel, maxval 255

-- "Let cb and cr be the chroma in 256ths less 128 × 256, limited to −32,768..32,768."
unfoldable pub centred : ℕ → ℤ
centred c = within 32768 (pos c -ℤ pos 32768)

-- "rnd(1402·cr / 256,000)"
unfoldable pub red_offset : ℤ → ℤ
red_offset cr = rnd (pos 1402 *ℤ cr) 256000

-- "rnd((−202,008·cb − 419,198·cr) / 150,272,000)"
unfoldable pub green_offset : ℤ → ℤ → ℤ
green_offset cb cr = rnd (neg_ℤ (pos 202008 *ℤ cb) -ℤ pos 419198 *ℤ cr) 150272000

-- "rnd(1772·cb / 256,000)"
unfoldable pub blue_offset : ℤ → ℤ
blue_offset cb = rnd (pos 1772 *ℤ cb) 256000

-- "R = Y + .., B = Y + .., G = Y + ..": "Each is then limited to 0..255"
unfoldable pub exact255 : ℕ → ℕ → ℕ → Colour
exact255 y cb256 cr256 = record {
  red = limit 255 (pos y +ℤ red_offset (centred cr256));
  green = limit 255 (pos y +ℤ green_offset (centred cb256) (centred cr256));
  blue = limit 255 (pos y +ℤ blue_offset (centred cb256));
}

-- ---- exact kernel, other maxval d

-- "The chroma centre is the floor of (d+1)/2, no limit is put on the offset"
unfoldable pub off_centre : ℕ → ℕ → ℤ
off_centre d c256 = pos c256 -ℤ pos (256 * ((d + 1) / 2))

-- "and the sum with Y times 255/d is rounded as one fraction by rnd"
unfoldable pub exact_at : ℕ → ℕ → ℕ → ℕ → Colour
exact_at d y cb256 cr256 = record {
  red = limit 255 (rnd (pos 255 *ℤ (pos (256000 * y) +ℤ pos 1402 *ℤ off_centre d cr256)) (256000 * d));
  green = limit 255 (rnd (pos 255 *ℤ (pos (150272000 * y) -ℤ pos 202008 *ℤ off_centre d cb256 -ℤ pos 419198 *ℤ off_centre d cr256)) (150272000 * d));
  blue = limit 255 (rnd (pos 255 *ℤ (pos (256000 * y) +ℤ pos 1772 *ℤ off_centre d cb256)) (256000 * d));
}

-- ---- fixed kernel, maxval 255: "on whole Cb and Cr, multipliers 91,881, 22,554, 46,802 and 116,130, plus 32,768, shifted down by 16 with floor"

abbrev pub less128 : ℕ → ℤ
less128 c = pos c -ℤ pos 128

unfoldable pub fixed_red : ℕ → ℤ
fixed_red cr = floor_div (pos 91881 *ℤ less128 cr +ℤ pos 32768) 65536

-- green's two parts are summed before the shift; Cr's part carries the 32,768
unfoldable pub fixed_green_cb : ℕ → ℤ
fixed_green_cb cb = neg_ℤ (pos 22554 *ℤ less128 cb)

unfoldable pub fixed_green_cr : ℕ → ℤ
fixed_green_cr cr = neg_ℤ (pos 46802 *ℤ less128 cr) +ℤ pos 32768

unfoldable pub fixed_blue : ℕ → ℤ
fixed_blue cb = floor_div (pos 116130 *ℤ less128 cb +ℤ pos 32768) 65536

unfoldable pub fixed255 : ℕ → ℕ → ℕ → Colour
fixed255 y cb cr = record {
  red = limit 255 (pos y +ℤ fixed_red cr);
  green = limit 255 (pos y +ℤ floor_div (fixed_green_cb cb +ℤ fixed_green_cr cr) 65536);
  blue = limit 255 (pos y +ℤ fixed_blue cb);
}
