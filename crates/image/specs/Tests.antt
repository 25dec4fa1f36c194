-- The tests behind refusals 2, 3, 4, 18, 5, 16 and 7, in the order and words of document 01's table and of document 02's requests W2 (16), W7 (18) and W11
-- (ratios that aren't whole). Definitions only.
use Rattle.std.specs.Prelude.{Bool, true, false, ◌&&◌, ◌||◌, not, cond, List, [], ◌∷◌, ℕ, ◌+◌, ◌-◌, ◌*◌, ◌/◌, ltb, eqb}
use Rattle.laws.specs.Refusals.{Test}
use Rattle.laws.specs.Numbers.{outside_of}
use Rattle.laws.specs.declared.axes.Siting.{Siting}
use Rattle.laws.specs.declared.axes.Siting.TheVariants.{Centred, CoSited}
use Rattle.laws.specs.declared.axes.Axis.{Axis}
use Rattle.image.specs.declared.layout.Layout.{Layout}
use Rattle.image.specs.declared.layout.Range.{Range}
use Rattle.image.specs.declared.layout.Range.TheVariants.{Full, Studio}
use Rattle.laws.specs.declared.refusal.Refusal.TheVariants.{BadSize, BadRatio, BadSamples, BadChroma, BadRange}

-- 2: "width or height 0 or over 8,192"
unfoldable pub bad_size : Layout → Bool
bad_size l = outside_of 1 8192 l.w || outside_of 1 8192 l.h

-- num cells to r outputs: "a numerator and denominator per axis, each 1 to 4, numerator no greater"; `whole` where the numerator must be 1
abbrev pub bad_pair : Bool → Axis → ℕ → Bool
bad_pair whole a r = outside_of 1 4 r || outside_of 1 (cond whole 1 r) a.num

-- 3: "ratio outside 1..4"; "Guided and triangular stay with numerator 1. A pair outside these gets refusal 3"
unfoldable pub bad_ratio : Bool → Layout → Bool
bad_ratio whole l = bad_pair whole l.across l.rh || bad_pair whole l.down l.rv

-- the most that a sample of one or of two bytes holds
abbrev pub most_of : ℕ → ℕ
most_of bytes = cond (eqb bytes 1) 255 65535

-- 4: "sample bytes not 1 or 2, or maxval outside 1..255 (1..65,535 for 2 bytes), or fixed kernel with maxval not 255"; `fixed` is false but for a fill by that kernel
unfoldable pub bad_samples : Bool → Layout → Bool
bad_samples fixed l = (outside_of 1 2 l.sample_bytes || outside_of 1 (most_of l.sample_bytes) l.maxval) || (fixed && not (eqb l.maxval 255))

-- 18: "Studio range with another maxval or the fixed kernel"; `fixed` as in 4
unfoldable pub bad_range : Bool → Range → ℕ → Bool
bad_range fixed Full d = false
bad_range fixed Studio d = fixed || not (eqb d 255)

-- "the rounded-up quotient" n / r
unfoldable pub div_ceil : ℕ → ℕ → ℕ
div_ceil n r = (n + (r - 1)) / r

-- 5: "chroma size not the rounded-up quotient": "Chroma width is w·num/den rounded up, height likewise"
unfoldable pub bad_chroma : Layout → Bool
bad_chroma l = not (eqb l.cw (div_ceil (l.w * l.across.num) l.rh)) || not (eqb l.ch (div_ceil (l.h * l.down.num) l.rv))

-- the tests that open, the planes and fill begin with, 18 "right after 4": `whole` for guided and triangular, which "stay with numerator 1", and not for linear
unfoldable pub tests_for : Bool → Bool → Layout → List Test
tests_for whole fixed l = (bad_size l, BadSize) ∷ (bad_ratio whole l, BadRatio) ∷ (bad_samples fixed l, BadSamples) ∷ (bad_range fixed l.range l.maxval, BadRange) ∷ (bad_chroma l, BadChroma) ∷ []

-- those of guided and triangular
abbrev pub layout_tests : Bool → Layout → List Test
layout_tests fixed l = tests_for true fixed l

abbrev pub co_sited : Siting → Bool
co_sited Centred = false
co_sited CoSited = true

-- 16: "Co-sited on either axis with guided (open included) or triangular"
unfoldable pub bad_siting : Layout → Bool
bad_siting l = co_sited l.across.siting || co_sited l.down.siting

-- 7: "a plane's stride below its row, or data ending before its last row's end": h rows of w samples, in `len` bytes
unfoldable pub bad_plane : ℕ → ℕ → ℕ → ℕ → ℕ → Bool
bad_plane bytes w h stride len = ltb stride (w * bytes) || ltb len ((h - 1) * stride + w * bytes)
