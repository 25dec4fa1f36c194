-- The three answers of `chart_reading`: the chart refused, the patch refused or nothing, a reading.
-- Behind a good chart the list is the patch's, so that there is a reading exactly where there is a mean (`reading_is`), and the patch's
-- count tells which (`no_mean`, `some_mean`). What the searches found is the definition's by `least_is`.
use Rattle.std.proofs.Common.{◌≡◌, refl, sym, ap, ◌∙◌, subst, Bool, true, false, ◌&&◌, not, List, ℕ, ◌-◌, ◌*◌, ◌/◌, ◌%◌, ◌≤◌, ◌<◌, arith, ltb, eqb, length, ltb-true, Err, Some}
use Rattle.laws.specs.Refusals.{Answer, first, accepted}
use Rattle.laws.proofs.Limits.{neither, within}
use Rattle.laws.proofs.Refusals.{refused_here, passed_over}
use Rattle.colorimetry.specs.Patches.{PatchReply, PatchCall, count_of, patch_tests, has_mean, PatchGiven}
use Rattle.colorimetry.specs.Charts.{ChartCall, no_reading, shades_of, shade_off, candidate_off, bad_chart, chart_tests, whole_colour, has_reading, nearest_of, between_of, ChartGiven, pair_given}
use Rattle.colorimetry.specs.Inner.Search.{Least}
use Rattle.colorimetry.proofs.Least.{least_is}
use Rattle.laws.specs.declared.refusal.Refusal.TheVariants.{BadChart}

-- ---- a good chart

pub chart_shades : (len : ℕ) → bad_chart len ≡ false → (2 ≤ len / 3) × (len / 3 ≤ 24) × (3 * (len / 3) ≤ len)
unfolding bad_chart
chart_shades len e = let w = within 2 24 (len / 3) (neither (not (eqb (len % 3) 0)) _ e).1 in (w.0, w.1, omega arith)

tests_are : (c : ChartCall) → bad_chart (length c.chart) ≡ false → first (chart_tests c) ≡ first (patch_tests c.patch)
unfolding chart_tests
tests_are c e = passed_over (bad_chart (length c.chart)) BadChart (patch_tests c.patch) e

pub reading_is : (c : ChartCall) → bad_chart (length c.chart) ≡ false → has_reading c ≡ has_mean c.patch
unfolding has_reading has_mean
reading_is c e = ap (λ (a : Answer). accepted a && ltb 0 (count_of c.patch)) (tests_are c e)

-- ---- a mean or none, by the count

and_right : (a b : Bool) → (a && b) ≡ true → b ≡ true
and_right true b e = e
and_right false b e = let z : ◌≡◌ {A = ℕ} 0 1 = cc in absurd (omega arith)

counted : (c : PatchCall) → has_mean c ≡ true → 0 < count_of c
unfolding has_mean
counted c e = ltb-true 0 (count_of c) (and_right (accepted (first (patch_tests c))) (ltb 0 (count_of c)) e)

module _ (c : PatchCall) (p : PatchReply) (g : PatchGiven c p) where
  no_mean : p.pixels ≡ 0 → has_mean c ≡ false
  no_mean z = go (has_mean c) refl
    where
      go : (b : Bool) → has_mean c ≡ b → b ≡ false
      go true e = absurd (let n : p.pixels ≡ count_of c = g.count ∙ rw e refl in let h = counted c e in omega (arith, n, h, z))
      go false e = refl

  some_mean : 0 < p.pixels → has_mean c ≡ true
  some_mean z = go (has_mean c) refl
    where
      go : (b : Bool) → has_mean c ≡ b → b ≡ true
      go true e = refl
      go false e = absurd (let n : p.pixels ≡ 0 = g.count ∙ rw e refl in omega (arith, n, z))

-- ---- the three answers

-- no reading, with an answer that is the list's
none_given : (c : ChartCall) (a : Answer) → a ≡ first (chart_tests c) → has_reading c ≡ false → ChartGiven c (no_reading a)
none_given c a e f = record { answers = e; shade = rw f refl; mix = rw f refl; shade_off_is = rw f refl; mix_off_is = rw f refl; wholes = rw f refl; count = rw f refl }

pub chart_refused : (c : ChartCall) → bad_chart (length c.chart) ≡ true → ChartGiven c (no_reading (Err BadChart))
unfolding has_reading chart_tests
chart_refused c b =
    let e = refused_here (bad_chart (length c.chart)) BadChart (patch_tests c.patch) b in
    none_given c (Err BadChart) (sym e) (ap (λ (a : Answer). accepted a && ltb 0 (count_of c.patch)) e)

pub chart_nothing : (c : ChartCall) (p : PatchReply) → PatchGiven c.patch p → bad_chart (length c.chart) ≡ false → p.pixels ≡ 0 → ChartGiven c (no_reading p.answer)
chart_nothing c p g b z = none_given c p.answer (g.answers ∙ sym (tests_are c b)) (reading_is c b ∙ no_mean c.patch p g z)

-- the searches looked at the patch's own whole-number mean
colour_is : (c : PatchCall) (p : PatchReply) → PatchGiven c p → has_mean c ≡ true → p.whole ≡ whole_colour c
unfolding whole_colour
colour_is c p g m = g.wholes ∙ rw m refl

pub chart_given : (c : ChartCall) (p : PatchReply) (i o q u : ℕ) → PatchGiven c.patch p → bad_chart (length c.chart) ≡ false → 0 < p.pixels
    → Least (shade_off c.chart p.whole) (shades_of c) i o → Least (candidate_off c.chart p.whole) (17 * (shades_of c - 1)) q u
    → ChartGiven c (record { answer = p.answer; nearest = Some i; between = pair_given (q / 17) (q % 17); nearest_off = o; between_off = u; whole = p.whole; pixels = p.pixels })
unfolding nearest_of between_of
chart_given c p i o q u g b z l k =
    let m = some_mean c.patch p g z in
    let h : has_reading c ≡ true = reading_is c b ∙ m in
    let w = colour_is c.patch p g m in
    let L = subst (λ (e : List ℕ). Least (shade_off c.chart e) (shades_of c) i o) w l in
    let K = subst (λ (e : List ℕ). Least (candidate_off c.chart e) (17 * (shades_of c - 1)) q u) w k in
    let x : i ≡ nearest_of c = least_is (shade_off c.chart (whole_colour c.patch)) (shades_of c) i L.first in
    let y : q ≡ between_of c = least_is (candidate_off c.chart (whole_colour c.patch)) (17 * (shades_of c - 1)) q K.first in
    record {
      answers = g.answers ∙ sym (tests_are c b);
      shade = rw h (ap Some x);
      mix = rw h (ap (λ (z : ℕ). pair_given (z / 17) (z % 17)) y);
      shade_off_is = rw h (L.is ∙ ap (shade_off c.chart (whole_colour c.patch)) x);
      mix_off_is = rw h (K.is ∙ ap (candidate_off c.chart (whole_colour c.patch)) y);
      wholes = rw h w;
      count = rw h (g.count ∙ rw m refl);
    }
