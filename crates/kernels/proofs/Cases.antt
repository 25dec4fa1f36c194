-- Worked cases of the kernels, computed from the definitions.
use Rattle.std.proofs.Common.{◌≡◌, refl, ◌*◌, Err}
use lib.IntN.{pos, negsuc}
use Rattle.laws.specs.Differences.{floor_div, limit, within}
use Rattle.laws.specs.Refusals.{first}
use Rattle.image.specs.declared.layout.Range.TheVariants.{Full, Studio}
use Rattle.image.specs.Tests.{bad_range}
use Rattle.kernels.specs.HalvesUp.{rnd}
use Rattle.kernels.specs.Kernels.{centred, red_offset, green_offset, blue_offset, exact255, off_centre, exact_at, fixed_red, fixed_green_cb, fixed_green_cr, fixed_blue, fixed255}
use Rattle.kernels.specs.T871.{t871_spans, studio255}
use Rattle.kernels.specs.Pixels.{rgb_of, exact_colour, ranged_colour, bad_exact, exact_tests, fixed_tests, exact_pixel, fixed_pixel}
use Rattle.laws.specs.declared.refusal.Refusal.TheVariants.{BadPixel, BadRange}

-- -n is `negsuc (n - 1)`
pub record Cases : Type 0 where
  -- the starred cases of document 01
  pub exact_bright : exact_pixel Full 255 230 (3 * 256) (128 * 256) ≡ rgb_of 230 255 9
  pub fixed_bright : fixed_pixel 230 3 128 ≡ rgb_of 230 255 8
  pub exact_dark : exact_pixel Full 255 10 (253 * 256) (128 * 256) ≡ rgb_of 10 0 232
  pub exact_4095 : exact_pixel Full 4095 2048 (2048 * 256) (2048 * 256) ≡ rgb_of 128 128 128
  -- chroma above 65,536 256ths: the offset is limited
  pub limited : exact_pixel Full 255 0 32768 65545 ≡ rgb_of 179 0 0
  -- the upper limit itself: one less, 32,767 or 65,535, would give green 38 and 153, and at another maxval red 195
  pub limit_taken : exact_pixel Full 255 100 11264 65536 ≡ rgb_of 255 37 0
  pub limit_passed : exact_pixel Full 255 200 105 70000 ≡ rgb_of 255 152 0
  pub greatest_chroma : exact_pixel Full 65534 4302 (32767 * 256) 16776960 ≡ rgb_of 196 0 17
  -- halves go up: "The blue offset at cb = 32,000 is +222 and at -32,000 it is -221."
  pub blue_up : blue_offset (pos 32000) ≡ pos 222
  pub blue_down : blue_offset (negsuc 31999) ≡ negsuc 220
  -- green's halves at whole samples
  pub green_down : green_offset (centred (78 * 256)) (centred (178 * 256)) ≡ negsuc 17
  pub green_up : green_offset (centred (178 * 256)) (centred (78 * 256)) ≡ pos 19
  -- the limits of refusal 13
  pub luma_most : exact_pixel Full 255 65535 32768 32768 ≡ rgb_of 255 255 255
  pub luma_over : exact_pixel Full 255 65536 32768 32768 ≡ Err BadPixel
  pub chroma_over : exact_pixel Full 255 0 16776961 32768 ≡ Err BadPixel
  pub maxval_none : exact_pixel Full 0 0 0 0 ≡ Err BadPixel
  pub maxval_over : exact_pixel Full 65536 0 0 0 ≡ Err BadPixel
  pub fixed_over : fixed_pixel 0 0 65536 ≡ Err BadPixel
  -- studio range
  pub studio_black : exact_pixel Studio 255 16 (128 * 256) (128 * 256) ≡ rgb_of 0 0 0
  pub studio_white : exact_pixel Studio 255 235 (128 * 256) (128 * 256) ≡ rgb_of 255 255 255
  pub studio_grey : exact_pixel Studio 255 126 (128 * 256) (128 * 256) ≡ rgb_of 128 128 128
  pub studio_bar_red : exact_pixel Studio 255 81 (90 * 256) (240 * 256) ≡ rgb_of 254 0 0
  pub studio_bar_green : exact_pixel Studio 255 145 (54 * 256) (34 * 256) ≡ rgb_of 0 255 1
  pub studio_bar_blue : exact_pixel Studio 255 41 (240 * 256) (110 * 256) ≡ rgb_of 0 0 255
  pub studio_low : exact_pixel Studio 255 16 (16 * 256) (16 * 256) ≡ rgb_of 0 135 0
  pub studio_high : exact_pixel Studio 255 235 (240 * 256) (240 * 256) ≡ rgb_of 255 120 255
  pub studio_limited : exact_pixel Studio 255 100 16776960 16776960 ≡ rgb_of 255 0 255
  -- 18, and before 13
  pub studio_254 : exact_pixel Studio 254 16 32768 32768 ≡ Err BadRange
  pub studio_first : exact_pixel Studio 0 65536 32768 32768 ≡ Err BadRange
  pub studio_over : exact_pixel Studio 255 65536 32768 32768 ≡ Err BadPixel

pub cases : Cases
unfolding bad_range bad_exact t871_spans studio255 ranged_colour floor_div limit within first rnd centred red_offset green_offset blue_offset exact255 off_centre exact_at fixed_red fixed_green_cb fixed_green_cr fixed_blue fixed255 exact_colour exact_tests fixed_tests exact_pixel fixed_pixel
cases =
    record {
      exact_bright = refl;
      fixed_bright = refl;
      exact_dark = refl;
      exact_4095 = refl;
      limited = refl;
      limit_taken = refl;
      limit_passed = refl;
      greatest_chroma = refl;
      blue_up = refl;
      blue_down = refl;
      green_down = refl;
      green_up = refl;
      luma_most = refl;
      luma_over = refl;
      chroma_over = refl;
      maxval_none = refl;
      maxval_over = refl;
      fixed_over = refl;
      studio_black = refl;
      studio_white = refl;
      studio_grey = refl;
      studio_bar_red = refl;
      studio_bar_green = refl;
      studio_bar_blue = refl;
      studio_low = refl;
      studio_high = refl;
      studio_limited = refl;
      studio_254 = refl;
      studio_first = refl;
      studio_over = refl;
    }
