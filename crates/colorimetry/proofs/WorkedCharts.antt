-- Readings computed from the definitions: ties between shades and between mixes, and the lengths that a chart may have.
use Rattle.std.proofs.Common.{◌≡◌, refl, true, false, List, [], ◌∷◌, ℕ, Err}
use Rattle.laws.specs.Refusals.{first}
use Rattle.laws.specs.Sums.{sum_to}
use Rattle.colorimetry.specs.Mixes.{mix_of}
use Rattle.colorimetry.specs.Patches.{channel_at, shared_of, channel_sum, bad_sides, passes, passes_end, patch_tests}
use Rattle.colorimetry.specs.Charts.{ChartCall, chart_call, shade_at, mix_at, square_of, distance, shade_off, mix_off, candidate_off, first_least, bad_chart, chart_tests, whole_colour, nearest_of, between_of}
use Rattle.laws.specs.declared.refusal.Refusal.TheVariants.{BadSize, BadRectangle, BadChart}

-- one pixel of three equal bytes on a chart
grey : List ℕ → ℕ → ChartCall
grey chart n = chart_call chart (record { left = 0; top = 0; width = 1; height = 1 }) 1 1 (n ∷ n ∷ n ∷ [])

-- shades of 0, 100 and 200 in every channel
three : List ℕ
three = 0 ∷ 0 ∷ 0 ∷ 100 ∷ 100 ∷ 100 ∷ 200 ∷ 200 ∷ 200 ∷ []

-- 50 is as far from 0 as from 100, and the first is given; 51 is nearer to 100, and 150 is as far from it as from 200
shades : (nearest_of (grey three 50) ≡ 0) × (nearest_of (grey three 51) ≡ 1) × (nearest_of (grey three 150) ≡ 1) × (nearest_of (grey three 151) ≡ 2)
unfolding grey three nearest_of first_least shade_off distance square_of shade_at whole_colour channel_sum channel_at shared_of sum_to
shades = (refl, refl, refl, refl)

-- two shades of 0 and 1: the mix is 0 up to weight 7 and 1 from 8 on, so that 0 is read at weight 0 and 1 at weight 8
pair : List ℕ
pair = 0 ∷ 0 ∷ 0 ∷ 1 ∷ 1 ∷ 1 ∷ []

mixes : (between_of (grey pair 0) ≡ 0) × (between_of (grey pair 1) ≡ 8)
unfolding grey pair between_of first_least candidate_off mix_off mix_at mix_of distance square_of shade_at whole_colour channel_sum channel_at shared_of sum_to
mixes = (refl, refl)

-- halves go up by value and not by side
halves : (mix_of 8 0 1 ≡ 1) × (mix_of 8 1 0 ≡ 1) × (mix_of 7 0 1 ≡ 0) × (mix_of 9 1 0 ≡ 0)
unfolding mix_of
halves = (refl, refl, refl, refl)

-- 2 to 24 shades of three bytes, and no byte over
lengths : (bad_chart 3 ≡ true) × (bad_chart 5 ≡ true) × (bad_chart 6 ≡ false) × (bad_chart 7 ≡ true) × (bad_chart 8 ≡ true) × (bad_chart 72 ≡ false) × (bad_chart 73 ≡ true) × (bad_chart 75 ≡ true) × (bad_chart 0 ≡ true)
unfolding bad_chart
lengths = (refl, refl, refl, refl, refl, refl, refl, refl, refl)

-- 20 before anything else, then the patch's refusals
order : List ℕ → ℕ → ChartCall
order chart w = chart_call chart (record { left = 65536; top = 0; width = 0; height = 0 }) w 1 []

twenty_first : (first (chart_tests (order [] 0)) ≡ Err BadChart) × (first (chart_tests (order pair 0)) ≡ Err BadSize) × (first (chart_tests (order pair 1)) ≡ Err BadRectangle)
unfolding order pair chart_tests bad_chart first patch_tests bad_sides passes_end passes
twenty_first = (refl, refl, refl)
