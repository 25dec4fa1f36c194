-- The colour that fill gives a pixel, from its luma and its reconstructed chroma. Definitions only.
use Rattle.std.specs.Prelude.{cond, ℕ, eqb, Float}
use Rattle.laws.specs.Floats.{f32, ◌⊗◌}
use Rattle.image.specs.declared.layout.Range.{Range}
use Rattle.image.specs.declared.layout.Range.TheVariants.{Full, Studio}
use Rattle.fround.specs.Rounding.{round_clamped}
use Rattle.kernels.specs.Kernels.{Colour, fixed255}
use Rattle.kernels.specs.T871.{studio255}
use Rattle.kernels.specs.Pixels.{exact_colour}
use Rattle.kernels.specs.declared.kernel.YcbcrKernel.{YcbcrKernel}
use Rattle.kernels.specs.declared.kernel.YcbcrKernel.TheVariants.{Exact, FixedPoint16}

-- "limited to −32,768..32,768" round 128 × 256 at maxval 255; "For maxval other than 255 the fill rounds v × 256 up to 16,776,960"
unfoldable pub limit256 : ℕ → ℕ
limit256 d = cond (eqb d 255) 65536 16776960

-- "Cb and Cr may carry a fraction in 256ths"
unfoldable pub chroma256 : ℕ → Float → ℕ
chroma256 d v = round_clamped (limit256 d) (v ⊗ f32 256)

-- "The fill first rounds chroma to a whole number in 0..255."
unfoldable pub whole_chroma : Float → ℕ
whole_chroma v = round_clamped 255 v

-- the colour of a pixel of luma y in full range, d being maxval
unfoldable pub colour_by : YcbcrKernel → ℕ → ℕ → Float → Float → Colour
colour_by Exact d y cb cr = exact_colour d y (chroma256 d cb) (chroma256 d cr)
colour_by FixedPoint16 d y cb cr = fixed255 y (whole_chroma cb) (whole_chroma cr)

-- "In studio range, for maxval 255": the exact kernel's, "chroma still in 256ths"
unfoldable pub studio_by : ℕ → Float → Float → Colour
studio_by y cb cr = studio255 y (chroma256 255 cb) (chroma256 255 cr)

-- "a range, full or studio"; studio range is for the exact kernel and maxval 255 alone
unfoldable pub colour_in : Range → YcbcrKernel → ℕ → ℕ → Float → Float → Colour
colour_in Full kernel d y cb cr = colour_by kernel d y cb cr
colour_in Studio kernel d y cb cr = studio_by y cb cr
