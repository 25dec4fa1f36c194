-- The steps of a picture row are the definition's: no sample outside the planes is looked at.
use Rattle.std.proofs.Common.{◌≡◌, refl, sym, ap, ◌∙◌, List, [], ◌∷◌, ℕ, ◌<◌, Float}
use Rattle.laws.specs.Floats.{f32}
use Rattle.laws.proofs.Lists.{put_same}
use Rattle.image.specs.declared.layout.Layout.{Layout}
use Rattle.image.specs.Samples.{sample_at}
use Rattle.image.specs.declared.chroma.Chroma.{Chroma}
use Rattle.image.specs.declared.chroma.Chroma.TheVariants.{Cb, Cr}
use Rattle.image.specs.Picture.{picture_of, Planes}
use Rattle.image.proofs.Pictures.{inside_is}
use Rattle.image.specs.Scratch.{cell_at}
use Rattle.guided.specs.Guided.{detail_of}
use Rattle.guided_window.specs.declared.buffers.Buffer.TheVariants.{Luma}
use Rattle.guided.specs.Scratch.{column_at, detail_at, read_stored, read_across, read_down, luma_column, detail_row, component_columns, finished_row, components_over}
use Rattle.guided_pixels.specs.Inner.Columns.{down_row}
use Rattle.guided_pixels.specs.Inner.Pixels.{detail_line}
use Rattle.guided_pixels.specs.Inner.Row.{down_columns, component_row, window_row}
use Rattle.guided_pixels.specs.Inner.Values.{inputs_of, value_at, value_row}

-- ---- the picture's samples

module _ (l : Layout) (ps : Planes) (y : ℕ) where
  pub luma_is : (s : List Float) → down_row l Luma 0 y s ≡ luma_column (picture_of l ps) y s
  unfolding down_row luma_column read_across read_stored picture_of
  luma_is s = refl

  pub detail_row_is : (s : List Float) → y < l.h → detail_line l ps.y y s ≡ detail_row (picture_of l ps) y s
  unfolding detail_line detail_row picture_of
  detail_row_is s h =
      put_same s (detail_at l) l.w _ _ (λ x k. ap (λ (n : ℕ). detail_of l (cell_at s (column_at l 0)) (f32 n) x) (sym (inside_is l.w l.h (sample_at l.sample_bytes ps.y) x y k h)))

  pub component_is : (k : Chroma) (s : List Float) → component_row l k y s ≡ finished_row (picture_of l ps) k y (component_columns (picture_of l ps) k y s)
  unfolding component_row down_columns down_row value_row value_at inputs_of finished_row component_columns read_across read_stored read_down picture_of
  component_is k s = refl

  -- ---- the whole row, from what each step leaves

  module _ (h : y < l.h) (s0 s1 s2 s3 : List Float) (a : s1 ≡ down_row l Luma 0 y s0) (b : s2 ≡ detail_line l ps.y y s1) (c : s3 ≡ component_row l Cb y s2) where
    front : s2 ≡ detail_row (picture_of l ps) y (luma_column (picture_of l ps) y s0)
    front = b ∙ detail_row_is s1 h ∙ ap (detail_row (picture_of l ps) y) (a ∙ luma_is s0)

    pub row_cb : s3 ≡ window_row (picture_of l ps) (Cb ∷ []) y s0
    unfolding components_over
    row_cb = c ∙ component_is Cb s2 ∙ ap (λ (s : List Float). finished_row (picture_of l ps) Cb y (component_columns (picture_of l ps) Cb y s)) front

    pub row_both : (s4 : List Float) → s4 ≡ component_row l Cr y s3 → s4 ≡ window_row (picture_of l ps) (Cb ∷ Cr ∷ []) y s0
    unfolding components_over
    row_both s4 d = d ∙ component_is Cr s3 ∙ ap (λ (s : List Float). finished_row (picture_of l ps) Cr y (component_columns (picture_of l ps) Cr y s)) row_cb
