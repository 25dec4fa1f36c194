-- What the single-pixel calls answer. Definitions only.
use Rattle.std.specs.Prelude.{Bool, true, false, ◌||◌, List, [], ◌∷◌, ℕ, ltb, eqb, Result, Ok, Err}
use Rattle.laws.specs.Refusals.{Answer, Test, first}
use Rattle.laws.specs.Numbers.{outside_of}
use Rattle.image.specs.declared.layout.Range.{Range}
use Rattle.image.specs.declared.layout.Range.TheVariants.{Full, Studio}
use Rattle.image.specs.Tests.{bad_range}
use Rattle.laws.specs.declared.refusal.Refusal.{Refusal}
use Rattle.kernels.specs.declared.bytes.Rgb.{Rgb}
use Rattle.kernels.specs.Kernels.{Colour, exact255, exact_at, fixed255}
use Rattle.kernels.specs.T871.{studio255}
use Rattle.laws.specs.declared.refusal.Refusal.TheVariants.{BadPixel, BadRange}

-- what a single-pixel call answers: the three bytes, or the reason why there are none
abbrev pub Pixel : Type 0
Pixel = Result Rgb Refusal

abbrev pub rgb_of : ℕ → ℕ → ℕ → Pixel
rgb_of r g b = Ok (record { r = r; g = g; b = b })

abbrev pub pixel_of : Answer → Colour → Pixel
pixel_of (Ok _) c = rgb_of c.red c.green c.blue
pixel_of (Err why) c = Err why

-- a pixel's answer, without its bytes
abbrev pub answer_of : Pixel → Answer
answer_of (Ok _) = Ok tt
answer_of (Err why) = Err why

abbrev pub pick_colour : Bool → Colour → Colour → Colour
pick_colour true a b = a
pick_colour false a b = b

-- "maxval 255" has its own formula
unfoldable pub exact_colour : ℕ → ℕ → ℕ → ℕ → Colour
exact_colour d y cb256 cr256 = pick_colour (eqb d 255) (exact255 y cb256 cr256) (exact_at d y cb256 cr256)

-- the colour in a range; studio range is for maxval 255 alone
unfoldable pub ranged_colour : Range → ℕ → ℕ → ℕ → ℕ → Colour
ranged_colour Full d y cb256 cr256 = exact_colour d y cb256 cr256
ranged_colour Studio d y cb256 cr256 = studio255 y cb256 cr256

-- 13: "single-pixel luma or whole chroma over 65,535, chroma in 256ths over 16,776,960, or maxval outside 1..65,535"
unfoldable pub bad_exact : ℕ → ℕ → ℕ → ℕ → Bool
bad_exact d y cb256 cr256 = ltb 65535 y || (ltb 16776960 cb256 || (ltb 16776960 cr256 || outside_of 1 65535 d))

-- 18 stands "right after 4"
unfoldable pub exact_tests : Range → ℕ → ℕ → ℕ → ℕ → List Test
exact_tests range d y cb256 cr256 = (bad_range false range d, BadRange) ∷ (bad_exact d y cb256 cr256, BadPixel) ∷ []

unfoldable pub fixed_tests : ℕ → ℕ → ℕ → List Test
fixed_tests y cb cr = (ltb 65535 y || (ltb 65535 cb || ltb 65535 cr), BadPixel) ∷ []

unfoldable pub exact_pixel : Range → ℕ → ℕ → ℕ → ℕ → Pixel
exact_pixel range d y cb256 cr256 = pixel_of (first (exact_tests range d y cb256 cr256)) (ranged_colour range d y cb256 cr256)

unfoldable pub fixed_pixel : ℕ → ℕ → ℕ → Pixel
fixed_pixel y cb cr = pixel_of (first (fixed_tests y cb cr)) (fixed255 y cb cr)
