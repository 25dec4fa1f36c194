-- The steps of a chroma row down are the definition's: no sample outside the planes is looked at.
use Rattle.std.proofs.Common.{◌≡◌, refl, sym, ap, ◌∙◌, List, [], ◌∷◌, ℕ, ◌+◌, ◌<◌, Float}
use Rattle.guided_down.specs.declared.picks.Pick.TheVariants.{Smaller, Greater}
use Rattle.laws.specs.Floats.{f32}
use Rattle.laws.specs.Lists.{put}
use Rattle.laws.proofs.Lists.{put_same}
use Rattle.image.specs.declared.layout.Layout.{Layout}
use Rattle.image.specs.Samples.{Plane, sample_at}
use Rattle.image.specs.declared.chroma.Chroma.{Chroma}
use Rattle.image.specs.declared.chroma.Chroma.TheVariants.{Cb, Cr}
use Rattle.image.specs.Picture.{chroma_plane, inside, picture_of, Planes}
use Rattle.image.proofs.Pictures.{inside_is}
use Rattle.fround.specs.Rounding.{fmin, fmax}
use Rattle.guided.specs.Guided.{extreme_of, extreme}
use Rattle.guided.specs.Scratch.{result_at, first_down, Least, Greatest, num_down, slope_parts, extreme_parts, down_parts, down_of, down_over, finish}
use Rattle.guided_across.proofs.Threes.{three_same}
use Rattle.guided_down.specs.Inner.Extremes.{extreme_row}
use Rattle.guided_down.specs.Inner.Slopes.{slope_row, slope_rows}
use Rattle.guided_down.specs.Inner.Down.{extreme_rows}

-- the extremes, by where they go
pub extreme_rows_are : (l : Layout) (p : Plane) (k : Chroma) (j a b : ℕ) (s : List Float) → a ≡ result_at l (first_down k + 1) j → b ≡ result_at l (first_down k + 2) j → extreme_row l p Greater j b (extreme_row l p Smaller j a s) ≡ extreme_rows l p k j s
unfolding extreme_rows
extreme_rows_are l p k j a b s f g = rw (f, g) refl

-- ---- the picture's samples

-- the cells round a cell of the plane are cells of the plane
extreme_inside : (l : Layout) (op : Float → Float → Float) (c : ℕ → ℕ → ℕ) (j i : ℕ) → j < l.ch → i < l.cw → extreme_of l op c j i ≡ extreme_of l op (inside l.cw l.ch c) j i
unfolding extreme_of
extreme_inside l op c j i h k =
    three_same op l.ch _ _ j h (λ r hr. three_same op l.cw (λ q. f32 (c r q)) (λ q. f32 (inside l.cw l.ch c r q)) i k (λ q hq. ap f32 (sym (inside_is l.cw l.ch c q r hq hr))))

module _ (l : Layout) (ps : Planes) where
  -- the extremes of a chroma row
  pub extremes_are : (k : Chroma) (j : ℕ) (s : List Float) → j < l.ch → extreme_rows l (chroma_plane ps k) k j s ≡ down_over (picture_of l ps) j (Least k ∷ Greatest k ∷ []) s
  unfolding extreme_rows down_over down_of extreme_row extreme picture_of
  extremes_are k j s h =
      let c : ℕ → ℕ → ℕ = sample_at l.sample_bytes (chroma_plane ps k) in
      let least = result_at l (num_down (Least k)) j in
      let greatest = result_at l (num_down (Greatest k)) j in
      let ys = put s least l.cw (extreme_of l fmin (inside l.cw l.ch c) j) in
      ap (λ (zs : List Float). put zs greatest l.cw (extreme_of l fmax c j)) (put_same s least l.cw _ _ (λ i g. extreme_inside l fmin c j i h g))
      ∙ put_same ys greatest l.cw _ _ (λ i g. extreme_inside l fmax c j i h g)

  pub finish_cb : (j : ℕ) (s t u : List Float) → j < l.ch → t ≡ slope_row l Cb j s → u ≡ extreme_rows l ps.cb Cb j t → u ≡ finish (picture_of l ps) (Cb ∷ []) j s
  unfolding finish down_parts slope_parts extreme_parts down_over down_of slope_row picture_of
  finish_cb j s t u h e f = f ∙ extremes_are Cb j t h ∙ ap (down_over (picture_of l ps) j (Least Cb ∷ Greatest Cb ∷ [])) e

  pub finish_both : (j : ℕ) (s t u v : List Float) → j < l.ch → t ≡ slope_rows l j s → u ≡ extreme_rows l ps.cb Cb j t → v ≡ extreme_rows l ps.cr Cr j u → v ≡ finish (picture_of l ps) (Cb ∷ Cr ∷ []) j s
  unfolding finish down_parts slope_parts extreme_parts down_over down_of slope_rows slope_row picture_of
  finish_both j s t u v h e f g =
      g ∙ extremes_are Cr j u h ∙ ap (down_over (picture_of l ps) j (Least Cr ∷ Greatest Cr ∷ [])) (f ∙ extremes_are Cb j t h)
      ∙ ap (λ (zs : List Float). down_over (picture_of l ps) j (Least Cr ∷ Greatest Cr ∷ []) (down_over (picture_of l ps) j (Least Cb ∷ Greatest Cb ∷ []) zs)) e
