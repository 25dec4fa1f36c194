-- ITU-T T.871, section 7, whole: a colour from Y, Cb and Cr, each channel one fraction with Y inside the rounding. Its coefficients in thousandths. Definitions only.
--   R = Y + 1.402 Cr
--   G = Y - (0.114 · 1.772 Cb + 0.299 · 1.402 Cr) / 0.587
--   B = Y + 1.772 Cb
use Rattle.std.specs.Prelude.{cond, ℕ, ◌*◌, ℤ, pos, ◌+ℤ◌, ◌-ℤ◌, ◌*ℤ◌, eqb}
use Rattle.laws.specs.Differences.{limit}
use Rattle.kernels.specs.HalvesUp.{rnd}
use Rattle.kernels.specs.Kernels.{Colour, centred, off_centre}

-- samples in 0..d: Y = 255 · y / d, Cb = 255 · cb / (256 · d), Cr likewise, chroma less its centre
unfoldable pub t871_colour : ℕ → ℤ → ℤ → ℤ → Colour
t871_colour d y cb cr = record {
  red = limit 255 (rnd (pos 255 *ℤ (pos (1000 * 256) *ℤ y +ℤ pos 1402 *ℤ cr)) (1000 * 256 * d));
  green = limit 255 (rnd (pos 255 *ℤ (pos (587 * 1000 * 256) *ℤ y -ℤ pos (114 * 1772) *ℤ cb -ℤ pos (299 * 1402) *ℤ cr)) (587 * 1000 * 256 * d));
  blue = limit 255 (rnd (pos 255 *ℤ (pos (1000 * 256) *ℤ y +ℤ pos 1772 *ℤ cb)) (1000 * 256 * d));
}

-- chroma in 256ths less its centre at maxval d: limited at 255, and at no other
unfoldable pub chroma_less : ℕ → ℕ → ℤ
chroma_less d c256 = cond (eqb d 255) (centred c256) (off_centre d c256)

-- luma and chroma that span p and q steps: Y = 255 · y / p, Cb = 255 · cb / (256 · q), Cr likewise. With p = q = d this is the one above
unfoldable pub t871_spans : ℕ → ℕ → ℤ → ℤ → ℤ → Colour
t871_spans p q y cb cr = record {
  red = limit 255 (rnd (pos 255 *ℤ (pos (q * (1000 * 256)) *ℤ y +ℤ pos (p * 1402) *ℤ cr)) (p * q * (1000 * 256)));
  green = limit 255 (rnd (pos 255 *ℤ (pos (q * (587 * 1000 * 256)) *ℤ y -ℤ pos (p * (114 * 1772)) *ℤ cb -ℤ pos (p * (299 * 1402)) *ℤ cr)) (p * q * (587 * 1000 * 256)));
  blue = limit 255 (rnd (pos 255 *ℤ (pos (q * (1000 * 256)) *ℤ y +ℤ pos (p * 1772) *ℤ cb)) (p * q * (1000 * 256)));
}

-- ---- studio range: "use T.871's equations on 255·(Y−16)/219 and on Cb and Cr as 255·(C−128)/224, chroma still in 256ths"

abbrev pub less16 : ℕ → ℤ
less16 y = pos y -ℤ pos 16

-- "Limit the chroma offset, C − 128 in 256ths before the factor 255/224, to the exact kernel's span first"
unfoldable pub studio255 : ℕ → ℕ → ℕ → Colour
studio255 y cb256 cr256 = t871_spans 219 224 (less16 y) (centred cb256) (centred cr256)
