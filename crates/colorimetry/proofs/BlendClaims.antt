-- `BlendClaims`: a blend counts as a row call in each reader's list, its row is the mix of the two fills' rows, and at weights 0 and 16 it is
-- one of the two. An accepted blend's sides are both fine, so that `side_ran` counts them; rgb_rows' `colour_is` brings demand 3 in.
use Rattle.std.proofs.Common.{◌≡◌, refl, sym, ap, ◌∙◌, subst, List, ℕ, ◌<◌, T, Float}
use Rattle.laws.specs.Refusals.{accepted}
use Rattle.reconstruction.specs.Colour.{Colour}
use Rattle.reconstruction.specs.Fill.{pixels}
use Rattle.reconstruction.proofs.Laws.{pixels_same, all_failed, pick, side_ran, given_done, wide, colour_is}
use Rattle.guided.specs.Calls.{OpenCall}
use Rattle.guided.specs.Events.{Event, RanRow, Run}
use Rattle.reconstruction.specs.Reader.{side_colour}
use Rattle.reconstruction.specs.Lists.{guided_colour}
use Rattle.colorimetry.specs.Blends.{BlendReply, BlendCall, BlendGiven, blend_tests, blend_colour}
use Rattle.colorimetry.specs.Mixes.{mix_colour}
use Rattle.colorimetry.specs.BlendClaims.{early_event, late_event, BlendClaims}
use Rattle.colorimetry.proofs.Mixing.{mix_first, mix_last}
use Rattle.colorimetry.proofs.BlendHanded.{BlendHanded, blend_handed}

mix_same : (k : ℕ) {a b e f : Colour} → a ≡ e → b ≡ f → mix_colour k a b ≡ mix_colour k e f
mix_same k p q = rw (p, q) refl

colour_first : (a b : Colour) → mix_colour 0 a b ≡ a
unfolding mix_colour
colour_first a b = rw (mix_first a.red b.red, mix_first a.green b.green, mix_first a.blue b.blue) refl

colour_last : (a b : Colour) → mix_colour 16 a b ≡ b
unfolding mix_colour
colour_last a b = rw (mix_last a.red b.red, mix_last a.green b.green, mix_last a.blue b.blue) refl

module _ (c : BlendCall) (r : BlendReply) (s t : List Float) (out : List ℕ) (g : BlendGiven c r s t out) where
  handed : T (accepted r.answer) → BlendHanded c
  handed a = blend_handed c (all_failed (blend_tests c) r.answer g.answers a)

  early_ran : RanRow (early_event c r s)
  early_ran = side_ran c.early c.y r.answer r.early s (λ a. (handed a).early) g.early_leaves g.early_scratches

  late_ran : RanRow (late_event c r t)
  late_ran = side_ran c.late c.y r.answer r.late t (λ a. (handed a).late) g.late_leaves g.late_scratches

  -- the row of an accepted blend
  row_left : T (accepted r.answer) → out ≡ pixels c.out 0 3 (blend_colour c) c.early.reader.geometry.w
  row_left a = g.gives ∙ pick (accepted r.answer) _ c.out a

  row_is : (o u : OpenCall) (es ds : List Event) → Run o (early_event c r s) es → Run u (late_event c r t) ds
      → out ≡ pixels c.out 0 3 (λ x. mix_colour c.weight (guided_colour o c.y x) (guided_colour u c.y x)) o.layout.w
  row_is o u es ds E L =
      let a = given_done o c.early c.y r.answer r.early s E.gives in
      let we : c.early.reader.geometry.w ≡ o.layout.w = wide c.early c.y r.answer r.early s o es E in
      let wl : c.late.reader.geometry.w ≡ u.layout.w = wide c.late c.y r.answer r.late t u ds L in
      let wb : o.layout.w ≡ u.layout.w = sym we ∙ (handed a).wide ∙ wl in
      row_left a
      ∙ ap (pixels c.out 0 3 (blend_colour c)) we
      ∙ pixels_same c.out 0 3 (blend_colour c) (λ x. mix_colour c.weight (guided_colour o c.y x) (guided_colour u c.y x)) o.layout.w
      (λ x X. mix_same c.weight (colour_is c.early c.y r.answer r.early s o es E x X) (colour_is c.late c.y r.answer r.late t u ds L x (subst (λ (n : ℕ). x < n) wb X)))

  row_0 : T (accepted r.answer) → c.weight ≡ 0 → out ≡ pixels c.out 0 3 (side_colour c.early c.y) c.early.reader.geometry.w
  row_0 a e =
      row_left a
      ∙ pixels_same c.out 0 3 (blend_colour c) (side_colour c.early c.y) c.early.reader.geometry.w
      (λ x X. ap (λ (k : ℕ). mix_colour k (side_colour c.early c.y x) (side_colour c.late c.y x)) e ∙ colour_first (side_colour c.early c.y x) (side_colour c.late c.y x))

  row_16 : T (accepted r.answer) → c.weight ≡ 16 → out ≡ pixels c.out 0 3 (side_colour c.late c.y) c.early.reader.geometry.w
  row_16 a e =
      row_left a
      ∙ pixels_same c.out 0 3 (blend_colour c) (side_colour c.late c.y) c.early.reader.geometry.w
      (λ x X. ap (λ (k : ℕ). mix_colour k (side_colour c.early c.y x) (side_colour c.late c.y x)) e ∙ colour_last (side_colour c.early c.y x) (side_colour c.late c.y x))

pub blend_claims : BlendClaims
blend_claims = record { early_counts = early_ran; late_counts = late_ran; rows = row_is; at_0 = row_0; at_16 = row_16 }
