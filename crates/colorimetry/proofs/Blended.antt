-- Two rows of pixels, mixed byte by byte, are a row of mixed colours: byte j is channel j mod 3 of pixel j / 3, and behind the row both are
-- what they were.
use Rattle.std.proofs.Common.{◌≡◌, refl, sym, ap, ◌∙◌, ◌⊎◌, inl, inr, Bool, true, false, List, ℕ, zero, suc, ◌+◌, ◌*◌, ◌/◌, ◌%◌, ◌≤◌, ◌<◌, arith, ltb, length, get_or, ext_get_or, ltb-true, ltb-false}
use Rattle.laws.specs.Lists.{put}
use Rattle.laws.proofs.Lists.{length_put, put_after, put_inside}
use Rattle.reconstruction.specs.Colour.{Colour}
use Rattle.reconstruction.specs.Fill.{pixels}
use Rattle.reconstruction.proofs.Laws.{channel, length_pixels, after, pixels_channel}
use Rattle.colorimetry.specs.Mixes.{mix_of, mix_colour}
use Rattle.colorimetry.specs.Inner.Blending.{mixed_at}

split : (j n : ℕ) → (j < n) ⊎ (n ≤ j)
split j n = go (ltb j n) refl
  where
    go : (b : Bool) → ltb j n ≡ b → (j < n) ⊎ (n ≤ j)
    go true e = inl (ltb-true j n e)
    go false e = inr (ltb-false j n e)

mix_channel : (k : ℕ) (a b : Colour) (c : ℕ) → mix_of k (channel a c) (channel b c) ≡ channel (mix_colour k a b) c
unfolding mix_colour
mix_channel k a b zero = refl
mix_channel k a b (suc zero) = refl
mix_channel k a b (suc (suc c)) = refl

module _ (o z : List ℕ) (f g : ℕ → Colour) (k w : ℕ) (O : w * 3 ≤ length o) (Z : w * 3 ≤ length z) where
  abbrev ps : List ℕ
  ps = pixels o 0 3 f w

  abbrev qs : List ℕ
  qs = pixels z 0 3 g w

  abbrev mixed : ℕ → Colour
  mixed x = mix_colour k (f x) (g x)

  inside : (x c : ℕ) → x < w → c < 3 → get_or (put ps 0 (w * 3) (mixed_at k ps qs)) (0 + (x * 3 + c)) 0 ≡ get_or (pixels o 0 3 mixed w) (0 + (x * 3 + c)) 0
  inside x c X C =
      let e : 0 + (x * 3 + c) ≡ 0 + x * 3 + c = omega arith in
      let d : x * 3 + c ≡ 0 + x * 3 + c = omega arith in
      let l : length ps ≡ length o = length_pixels o 0 3 f w in
      put_inside ps 0 (w * 3) (mixed_at k ps qs) (x * 3 + c) 0 (omega arith) (omega (arith, l))
      ∙ ap (λ (j : ℕ). mix_of k (get_or ps j 0) (get_or qs j 0)) d
      ∙ ap (λ (v : ℕ). mix_of k v (get_or qs (0 + x * 3 + c) 0)) (pixels_channel o 0 3 f w x c X C (omega arith) (omega arith))
      ∙ ap (λ (v : ℕ). mix_of k (channel (f x) c) v) (pixels_channel z 0 3 g w x c X C (omega arith) (omega arith))
      ∙ mix_channel k (f x) (g x) c
      ∙ sym (pixels_channel o 0 3 mixed w x c X C (omega arith) (omega arith))
      ∙ ap (λ (j : ℕ). get_or (pixels o 0 3 mixed w) j 0) (sym e)

  place : (j : ℕ) → 0 + (j / 3 * 3 + j % 3) ≡ j
  place j = omega arith

  byte : (j : ℕ) → get_or (put ps 0 (w * 3) (mixed_at k ps qs)) j 0 ≡ get_or (pixels o 0 3 mixed w) j 0
  byte j =
      elim (split j (w * 3)) [
        | inl h ↦
            ap (λ (i : ℕ). get_or (put ps 0 (w * 3) (mixed_at k ps qs)) i 0) (sym (place j))
            ∙ inside (j / 3) (j % 3) (omega arith) (omega arith)
            ∙ ap (λ (i : ℕ). get_or (pixels o 0 3 mixed w) i 0) (place j)
        | inr h ↦
            put_after ps 0 (w * 3) (mixed_at k ps qs) j 0 (omega arith)
            ∙ after o 0 3 f w j (omega arith) (omega arith)
            ∙ sym (after o 0 3 mixed w j (omega arith) (omega arith))
      ]

  pub mix_pixels : put ps 0 (w * 3) (mixed_at k ps qs) ≡ pixels o 0 3 mixed w
  mix_pixels = ext_get_or 0 _ _ (length_put ps 0 (w * 3) (mixed_at k ps qs) ∙ length_pixels o 0 3 f w ∙ sym (length_pixels o 0 3 mixed w)) (λ j h. byte j)
