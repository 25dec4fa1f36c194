-- The claims of specs/ChartClaims. A reading that was given is the definition's (`shade_is`, `mix_is`), and that is the first among the least.
-- Of mixes the order is carried over from the places in the row: pair i and weight k stand at place 17 * i + k.
use Rattle.std.proofs.Common.{◌≡◌, refl, sym, ap, ap₂, ◌∙◌, subst, Bool, true, false, ◌&&◌, ◌⊎◌, inl, inr, List, ℕ, zero, suc, ◌+◌, ◌-◌, ◌*◌, ◌/◌, ◌%◌, ◌≤◌, ◌<◌, arith, T, length, Float, Option, None, Some}
use lib.Ieee.Bits.{is_true}
use Rattle.laws.specs.Refusals.{Answer, first, accepted}
use Rattle.laws.proofs.Refusals.{accepted_is, accepted_failed}
use Rattle.colorimetry.specs.declared.patch.Patch.TheVariants as P
use Rattle.colorimetry.specs.Patches.{PatchReply, channel_mean, has_mean, pick_patch, PatchGiven}
use Rattle.colorimetry.specs.Charts.{ChartReply, ChartCall, shades_of, shade_at, mix_at, distance, mix_off, candidate_off, bad_chart, chart_tests, whole_colour, has_reading, nearest_of, between_of, ChartGiven, given_if, pair_of, pair_given}
use Rattle.colorimetry.specs.ChartClaims.{FirstLeast, OnChart, Before, shade_from, mix_from, ChartClaims}
use Rattle.colorimetry.proofs.Least.{least_found, least_only}
use Rattle.colorimetry.proofs.Mixing.{mix_between, mix_first, mix_last}
use Rattle.colorimetry.proofs.Readings.{chart_shades, reading_is}
use Rattle.colorimetry.specs.declared.shade.Between.{Between}

-- ---- what was given is the definition's

none_shade : (i : ℕ) → ◌≡◌ {A = Option ℕ} None (Some i) → ⊥
none_shade i e = let z : ◌≡◌ {A = ℕ} 0 1 = cc in omega arith

none_mix : (i k : ℕ) → ◌≡◌ {A = Option Between} None (pair_given i k) → ⊥
none_mix i k e = let z : ◌≡◌ {A = ℕ} 0 1 = cc in omega arith

shade_is : (b : Bool) (x i : ℕ) → given_if b x ≡ Some i → (b ≡ true) × (x ≡ i)
shade_is true x i e = (refl, (cc))
shade_is false x i e = absurd (none_shade i e)

mix_is : (b : Bool) (x y i k : ℕ) → given_if b (pair_of x y) ≡ pair_given i k → (b ≡ true) × (x ≡ i) × (y ≡ k)
mix_is true x y i k e = (refl, ap (λ (o : Option Between). first_in o) e, ap (λ (o : Option Between). weight_in o) e)
  where
    first_in : Option Between → ℕ
    first_in None = 0
    first_in (Some p) = p.first

    weight_in : Option Between → ℕ
    weight_in None = 0
    weight_in (Some p) = p.weight
mix_is false x y i k e = absurd (none_mix i k e)

-- ---- the chart of a reading

and_left : (a b : Bool) → (a && b) ≡ true → a ≡ true
and_left true b e = refl
and_left false b e = e

good : (c : ChartCall) → accepted (first (chart_tests c)) ≡ true → bad_chart (length c.chart) ≡ false
unfolding chart_tests
good c a = (accepted_failed (chart_tests c) (accepted_is (first (chart_tests c)) a)).0

read : (c : ChartCall) → has_reading c ≡ true → (2 ≤ shades_of c) × (shades_of c ≤ 24) × (3 * shades_of c ≤ length c.chart)
unfolding has_reading
read c h = chart_shades (length c.chart) (good c (and_left (accepted (first (chart_tests c))) _ h))

-- ---- shades

nearest : (c : ChartCall) (r : ChartReply) (i : ℕ) → ChartGiven c r → r.nearest ≡ Some i → FirstLeast (shade_from c) (shades_of c) i
unfolding nearest_of
nearest c r i g e =
    let p = shade_is (has_reading c) (nearest_of c) i (sym g.shade ∙ e) in
    let s = (read c p.0).0 in
    subst (λ (j : ℕ). FirstLeast (shade_from c) (shades_of c) j) p.1 (least_found (shade_from c) (shades_of c) (omega (arith, s)))

-- ---- mixes, by their places

module _ (c : ChartCall) (r : ChartReply) (i k : ℕ) (g : ChartGiven c r) (e : r.between ≡ pair_given i k) where
  place : (has_reading c ≡ true) × (between_of c / 17 ≡ i) × (between_of c % 17 ≡ k)
  place = mix_is (has_reading c) (between_of c / 17) (between_of c % 17) i k (sym g.mix ∙ e)

  row : FirstLeast (candidate_off c.chart (whole_colour c.patch)) (17 * (shades_of c - 1)) (between_of c)
  unfolding between_of
  row = let s = (read c place.0).0 in least_found _ (17 * (shades_of c - 1)) (omega (arith, s))

  given_off : candidate_off c.chart (whole_colour c.patch) (between_of c) ≡ mix_from c i k
  unfolding candidate_off
  given_off = ap₂ (λ (x y : ℕ). mix_from c x y) place.1 place.2

  place_off : (j l : ℕ) → l ≤ 16 → candidate_off c.chart (whole_colour c.patch) (17 * j + l) ≡ mix_from c j l
  unfolding candidate_off
  place_off j l h = let x : (17 * j + l) / 17 ≡ j = omega arith in let y : (17 * j + l) % 17 ≡ l = omega arith in ap₂ (λ (x y : ℕ). mix_from c x y) x y

  on_chart : OnChart c i k
  on_chart =
      let p = place in
      let s = (read c p.0).0 in
      let h = row.inside in
      record { pair = pair (between_of c) (shades_of c) i s h p.1; weights = weight (between_of c) k p.2 }
    where
      pair : (q n i : ℕ) → 2 ≤ n → q < 17 * (n - 1) → q / 17 ≡ i → i + 1 < n
      pair q n i s h e = omega arith

      weight : (q k : ℕ) → q % 17 ≡ k → k ≤ 16
      weight q k e = omega arith

  least : (j l : ℕ) → OnChart c j l → mix_from c i k ≤ mix_from c j l
  least j l o =
      let a = o.pair in
      let b = o.weights in
      let h = row.least (17 * j + l) (omega (arith, a, b)) in
      rw (given_off, place_off j l b) at h

  first_of : (j l : ℕ) → OnChart c j l → Before j l i k → mix_from c i k < mix_from c j l
  first_of j l o f =
      let b = o.weights in
      let h = row.first (17 * j + l) (earlier (between_of c) i k j l place.1 place.2 b f) in
      rw (given_off, place_off j l b) at h
    where
      earlier : (q i k j l : ℕ) → q / 17 ≡ i → q % 17 ≡ k → l ≤ 16 → Before j l i k → 17 * j + l < q
      earlier q i k j l x y b (inl h) = omega arith
      earlier q i k j l x y b (inr h) = let a = h.0 in let d = h.1 in omega arith

-- the last mix of a pair is the first of the next
same_mix : (chart colour : List ℕ) (i : ℕ) → mix_off chart colour i 16 ≡ mix_off chart colour (i + 1) 0
unfolding mix_off mix_at distance
same_mix chart colour i =
    rw (
      mix_last (shade_at chart i 0) (shade_at chart (i + 1) 0),
      mix_last (shade_at chart i 1) (shade_at chart (i + 1) 1),
      mix_last (shade_at chart i 2) (shade_at chart (i + 1) 2),
      mix_first (shade_at chart (i + 1) 0) (shade_at chart (i + 1 + 1) 0),
      mix_first (shade_at chart (i + 1) 1) (shade_at chart (i + 1 + 1) 1),
      mix_first (shade_at chart (i + 1) 2) (shade_at chart (i + 1 + 1) 2),
    ) refl

zero_first : (c : ChartCall) (r : ChartReply) (i : ℕ) → ChartGiven c r → r.between ≡ pair_given i 0 → i ≡ 0
zero_first c r zero g e = refl
zero_first c r (suc j) g e =
    let o = (on_chart c r (suc j) 0 g e).pair in
    let h = first_of c r (suc j) 0 g e j 16 (record { pair = omega (arith, o); weights = omega arith }) (inl (omega arith)) in
    let s = same_mix c.chart (whole_colour c.patch) j in
    let z : j + 1 ≡ suc j = omega arith in
    absurd (let t : mix_from c j 16 ≡ mix_from c (suc j) 0 = s ∙ ap (λ (n : ℕ). mix_from c n 0) z in omega (arith, h, t))

-- ---- nothing

no_mean : (a b d : Float) → P.Mean a b d ≡ P.Nothing → ⊥
no_mean a b d e = let z : ◌≡◌ {A = ℕ} 0 1 = cc in omega arith

-- there is a reading exactly where there is a mean
both : (c : ChartCall) (r : ChartReply) → ChartGiven c r → T (accepted r.answer) → has_reading c ≡ has_mean c.patch
both c r g a = reading_is c (good c (is_true (accepted (first (chart_tests c))) (subst (λ (z : Answer). T (accepted z)) g.answers a)))

nothing : (c : ChartCall) (r : ChartReply) (s : PatchReply) → ChartGiven c r → PatchGiven c.patch s → T (accepted r.answer) → s.patch ≡ P.Nothing → (r.nearest ≡ None) × (r.between ≡ None)
nothing c r s g q a e = go (has_mean c.patch) (both c r g a) q.mean
  where
    go : (b : Bool) → has_reading c ≡ b → s.patch ≡ pick_patch b (P.Mean (channel_mean c.patch 0) (channel_mean c.patch 1) (channel_mean c.patch 2)) P.Nothing → (r.nearest ≡ None) × (r.between ≡ None)
    go true h m = absurd (no_mean _ _ _ (sym m ∙ e))
    go false h m = (g.shade ∙ rw h refl, g.mix ∙ rw h refl)

something : (c : ChartCall) (r : ChartReply) (s : PatchReply) → ChartGiven c r → PatchGiven c.patch s → T (accepted r.answer) → (r.nearest ≡ None) ⊎ (r.between ≡ None) → s.patch ≡ P.Nothing
something c r s g q a e = go (has_mean c.patch) (both c r g a) q.mean e
  where
    go : (b : Bool) → has_reading c ≡ b → s.patch ≡ pick_patch b (P.Mean (channel_mean c.patch 0) (channel_mean c.patch 1) (channel_mean c.patch 2)) P.Nothing → (r.nearest ≡ None) ⊎ (r.between ≡ None) → s.patch ≡ P.Nothing
    go true h m (inl e) = absurd (none_shade (nearest_of c) (sym e ∙ g.shade ∙ rw h refl))
    go true h m (inr e) = absurd (none_mix (between_of c / 17) (between_of c % 17) (sym e ∙ g.mix ∙ rw h refl))
    go false h m e = m

-- ---- the claims

pub chart_claims : ChartClaims
chart_claims =
    record {
      found = least_found;
      only = least_only;
      nearest = nearest;
      on_chart = on_chart;
      least = λ c r i k j l g e o. least c r i k g e j l o;
      first = λ c r i k j l g e o b. first_of c r i k g e j l o b;
      zero_first = zero_first;
      mixed = mix_between;
      at_first = mix_first;
      at_last = mix_last;
      nothing = nothing;
      something = something;
    }
