-- "The lowest number that applies is given, and only then", of the single-pixel calls: 13 is given exactly if its test applies and 18 does not.
use Rattle.std.proofs.Common.{◌≡◌, refl, ap, ◌∙◌, ℕ, arith, Ok, Err}
use Rattle.laws.specs.Refusals.{Answer, first, place_of, Ascending, Lowest}
use Rattle.laws.proofs.Refusals.{given_lowest}
use Rattle.image.specs.declared.layout.Range.{Range}
use Rattle.kernels.specs.Kernels.{Colour, fixed255}
use Rattle.kernels.specs.Pixels.{Pixel, pixel_of, answer_of, ranged_colour, exact_tests, fixed_tests, exact_pixel, fixed_pixel}

-- a pixel's answer is the one that it was made from
answer_of_is : (a : Answer) (c : Colour) → answer_of (pixel_of a c) ≡ a
answer_of_is (Ok tt) c = refl
answer_of_is (Err why) c = refl

pub exact_ascends : (range : Range) (d y cb256 cr256 : ℕ) → Ascending 0 (exact_tests range d y cb256 cr256)
unfolding place_of Ascending exact_tests
exact_ascends range d y cb256 cr256 = (omega arith, (omega arith, tt))

pub exact_lowest : (range : Range) (d y cb256 cr256 : ℕ) (p : Pixel) → p ≡ exact_pixel range d y cb256 cr256 → Lowest (exact_tests range d y cb256 cr256) (answer_of p)
unfolding exact_pixel
exact_lowest range d y cb256 cr256 p e =
    let ts = exact_tests range d y cb256 cr256 in
    given_lowest ts (answer_of p) (exact_ascends range d y cb256 cr256) (ap answer_of e ∙ answer_of_is (first ts) (ranged_colour range d y cb256 cr256))

pub fixed_ascends : (y cb cr : ℕ) → Ascending 0 (fixed_tests y cb cr)
unfolding place_of Ascending fixed_tests
fixed_ascends y cb cr = (omega arith, tt)

pub fixed_lowest : (y cb cr : ℕ) (p : Pixel) → p ≡ fixed_pixel y cb cr → Lowest (fixed_tests y cb cr) (answer_of p)
unfolding fixed_pixel
fixed_lowest y cb cr p e =
    let ts = fixed_tests y cb cr in
    given_lowest ts (answer_of p) (fixed_ascends y cb cr) (ap answer_of e ∙ answer_of_is (first ts) (fixed255 y cb cr))
