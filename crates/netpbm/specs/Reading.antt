-- The whole input: "three Netpbm PGM images one after another (Y, Cb, Cr)". Definitions only.
use Rattle.std.specs.Prelude.{Bool, ◌&&◌, ◌||◌, cond, List, [], ◌∷◌, ◌++◌, ℕ, zero, suc, ltb, eqb, length}
use Rattle.laws.specs.Axes.{plain}
use Rattle.laws.specs.Refusals.{Test}
use Rattle.image.specs.declared.layout.Layout.{Layout}
use Rattle.image.specs.declared.layout.Range.TheVariants.{Full}
use Rattle.image.specs.Tests.{div_ceil, bad_size}
use Rattle.netpbm.specs.Images.{width_of, height_of, maxval_of, sample_bytes, image_end, image_tests}
use Rattle.laws.specs.declared.refusal.Refusal.TheVariants.{BadSize, BadChroma, BadHeader, TooLarge}

-- where the three images stand: the first at 0, each other one where the one before has ended
unfoldable pub cb_at : List ℕ → ℕ
cb_at s = image_end s 0

unfoldable pub cr_at : List ℕ → ℕ
cr_at s = image_end s (cb_at s)

-- ---- "Each ratio is the smallest of 1..4 that fits the sizes"

-- ratio r fits n pixels and both chroma sides, a and b
abbrev pub fits_both : ℕ → ℕ → ℕ → ℕ → Bool
fits_both n a b r = eqb a (div_ceil n r) && eqb b (div_ceil n r)

-- the smallest of k numbers from r on that passes a test; 0: none
unfoldable pub smallest : (ℕ → Bool) → ℕ → ℕ → ℕ
smallest p r zero = 0
smallest p r (suc k) = cond (p r) r (smallest p (suc r) k)

-- the smallest ratio that fits n pixels and both chroma sides, a and b; 0: none
unfoldable pub ratio_for : ℕ → ℕ → ℕ → ℕ
ratio_for n a b = smallest (fits_both n a b) 1 4

-- the layout that the input's three images make: centred and of full range, as the program's guided fill takes it. The maxval is "the same in all three", so that it is the first's
unfoldable pub input_layout : List ℕ → Layout
input_layout s = record {
  w = width_of s 0;
  h = height_of s 0;
  rh = ratio_for (width_of s 0) (width_of s (cb_at s)) (width_of s (cr_at s));
  rv = ratio_for (height_of s 0) (height_of s (cb_at s)) (height_of s (cr_at s));
  cw = width_of s (cb_at s);
  ch = height_of s (cb_at s);
  across = plain;
  down = plain;
  sample_bytes = sample_bytes (maxval_of s 0);
  maxval = maxval_of s 0;
  range = Full;
}

-- "where none fits both chroma images"; a chroma side of 0 fits none, since a Y image with a side of 0 was answered by 2 before
unfoldable pub no_ratio : Layout → Bool
no_ratio l = eqb l.rh 0 || eqb l.rv 0

-- ---- the reasons for turning the input down, in the program's own order

-- "Then the images are read in order and the first 14 or 15 met is given"
unfoldable pub images_tests : List ℕ → List Test
images_tests s = image_tests s 0 ++ image_tests s (cb_at s) ++ image_tests s (cr_at s)

-- "bytes left over"; "2 (by the Y image's sides alone) and 5 come after all three are read, 2 first"
unfoldable pub whole_tests : List ℕ → List Test
whole_tests s = (ltb (image_end s (cr_at s)) (length s), BadHeader) ∷ (bad_size (input_layout s), BadSize) ∷ (no_ratio (input_layout s), BadChroma) ∷ []

-- "Input too long is 15 before all else"
unfoldable pub reading_tests : List ℕ → List Test
reading_tests s = (ltb 49152 (length s), TooLarge) ∷ (images_tests s ++ whole_tests s)
