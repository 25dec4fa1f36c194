-- W9, 'Nearest shade on the chart': the reading of a patch on a chart of shades. Definitions only.
use Rattle.std.specs.Prelude.{◌≡◌, Bool, true, false, ◌||◌, ◌&&◌, not, cond, List, [], ◌∷◌, ℕ, zero, suc, ◌+◌, ◌-◌, ◌*◌, ◌/◌, ◌%◌, ltb, eqb, get_or, length, Option, Some, None, Result, Ok, Err}
use Rattle.laws.specs.Numbers.{outside_of}
use Rattle.reconstruction.specs.Geometry.{Rectangle}
use Rattle.reconstruction.specs.Refusals.{Answer, Test, first, accepted}
use Rattle.laws.specs.declared.refusal.Refusal.{Refusal}
use Rattle.colorimetry.specs.declared.shade.Between.{Between}
use Rattle.colorimetry.specs.declared.shade.ChartReading.{ChartReading}
use Rattle.colorimetry.specs.Mixes.{mix_of}
use Rattle.colorimetry.specs.Patches.{PatchCall, patch_call, count_of, whole_mean, patch_tests}
use Rattle.laws.specs.declared.refusal.Refusal.TheVariants.{BadChart}

-- "a chart of 2 to 24 shades, three bytes each and no byte over, with a patch's rectangle and picture"
pub record ChartCall : Type 0 where
  pub chart : List ℕ
  pub patch : PatchCall

abbrev pub chart_call : List ℕ → Rectangle → ℕ → ℕ → List ℕ → ChartCall
chart_call chart rectangle w h rgb = record { chart = chart; patch = patch_call rectangle w h rgb }

-- how many shades the chart has
abbrev pub shades_of : ChartCall → ℕ
shades_of c = length c.chart / 3

-- channel k of shade i
unfoldable pub shade_at : List ℕ → ℕ → ℕ → ℕ
shade_at chart i k = get_or chart (3 * i + k) 0

-- "For each pair of neighbours on the chart and each weight k from 0 to 16, the mix .. in each channel": the pair by its first index
unfoldable pub mix_at : List ℕ → ℕ → ℕ → ℕ → ℕ
mix_at chart i weight k = mix_of weight (shade_at chart i k) (shade_at chart (i + 1) k)

-- ---- how far

-- the square of the difference of a and b
unfoldable pub square_of : ℕ → ℕ → ℕ
square_of a b = (a - b + (b - a)) * (a - b + (b - a))

-- "sum of squared differences", over the three channels
unfoldable pub distance : (ℕ → ℕ) → (ℕ → ℕ) → ℕ
distance f g = square_of (f 0) (g 0) + square_of (f 1) (g 1) + square_of (f 2) (g 2)

-- of shade i, and of a mix, from a colour
unfoldable pub shade_off : List ℕ → List ℕ → ℕ → ℕ
shade_off chart colour i = distance (shade_at chart i) (λ k. get_or colour k 0)

unfoldable pub mix_off : List ℕ → List ℕ → ℕ → ℕ → ℕ
mix_off chart colour i weight = distance (mix_at chart i weight) (λ k. get_or colour k 0)

-- the mixes in a row, pair by pair and weight by weight: "the first pair and then the least weight" is the first of them
unfoldable pub candidate_off : List ℕ → List ℕ → ℕ → ℕ
candidate_off chart colour q = mix_off chart colour (q / 17) (q % 17)

-- ---- the first among the least

-- of d 0, .. d (n - 1) the index of "the least .., the first on a tie"
unfoldable pub first_least : (ℕ → ℕ) → ℕ → ℕ
first_least d zero = 0
first_least d (suc n) = cond (ltb (d n) (d (first_least d n))) n (first_least d n)

-- ---- the refusals

-- 20: "A chart of another length", for one of so many bytes
unfoldable pub bad_chart : ℕ → Bool
bad_chart len = not (eqb (len % 3) 0) || outside_of 2 24 (len / 3)

-- "gets 20, before anything else is looked at; the patch's refusals follow"
unfoldable pub chart_tests : ChartCall → List Test
chart_tests c = (bad_chart (length c.chart), BadChart) ∷ patch_tests c.patch

-- ---- the promise

-- "the patch's whole-number mean"
unfoldable pub whole_colour : PatchCall → List ℕ
whole_colour c = whole_mean c 0 ∷ whole_mean c 1 ∷ whole_mean c 2 ∷ []

-- the call was accepted and the patch is not nothing
unfoldable pub has_reading : ChartCall → Bool
has_reading c = accepted (first (chart_tests c)) && ltb 0 (count_of c.patch)

-- "the index, from 0, with the least sum of squared differences from the patch's whole-number mean, the first on a tie"
unfoldable pub nearest_of : ChartCall → ℕ
nearest_of c = first_least (shade_off c.chart (whole_colour c.patch)) (shades_of c)

-- "the pair .. and weight whose mix has the least such sum, the first pair and then the least weight on a tie", among the mixes in a row
unfoldable pub between_of : ChartCall → ℕ
between_of c = first_least (candidate_off c.chart (whole_colour c.patch)) (17 * (shades_of c - 1))

abbrev pub given_if : {A : Type 0} → Bool → A → Option A
given_if true a = Some a
given_if false a = None

abbrev pub pair_of : ℕ → ℕ → Between
pair_of first weight = record { first = first; weight = weight }

abbrev pub pair_given : ℕ → ℕ → Option Between
pair_given first weight = Some (pair_of first weight)

-- what `chart_reading` answers, and what it gives: where it is refused, as where the patch is nothing, nothing and zeros
pub record ChartReply : Type 0 where
  pub answer : Answer
  pub nearest : Option ℕ
  pub between : Option Between
  pub nearest_off : ℕ
  pub between_off : ℕ
  pub whole : List ℕ
  pub pixels : ℕ

abbrev pub no_reading : Answer → ChartReply
no_reading a = record { answer = a; nearest = None; between = None; nearest_off = 0; between_off = 0; whole = 0 ∷ 0 ∷ 0 ∷ []; pixels = 0 }

abbrev pub chart_reply : Result ChartReading Refusal → ChartReply
chart_reply (Ok r) = record { answer = Ok tt; nearest = r.nearest; between = r.between; nearest_off = r.nearest_off; between_off = r.between_off; whole = r.whole; pixels = r.pixels }
chart_reply (Err why) = no_reading (Err why)

-- "Where the patch is nothing, so are both answers." What isn't given is 0, and a refused call gives nothing.
pub record ChartGiven (c : ChartCall) (r : ChartReply) : Type 0 where
  pub answers : r.answer ≡ first (chart_tests c)
  pub shade : r.nearest ≡ given_if (has_reading c) (nearest_of c)
  pub mix : r.between ≡ given_if (has_reading c) (pair_of (between_of c / 17) (between_of c % 17))
  pub shade_off_is : r.nearest_off ≡ cond (has_reading c) (shade_off c.chart (whole_colour c.patch) (nearest_of c)) 0
  pub mix_off_is : r.between_off ≡ cond (has_reading c) (candidate_off c.chart (whole_colour c.patch) (between_of c)) 0
  pub wholes : r.whole ≡ cond (has_reading c) (whole_colour c.patch) (0 ∷ 0 ∷ 0 ∷ [])
  pub count : r.pixels ≡ cond (has_reading c) (count_of c.patch) 0
