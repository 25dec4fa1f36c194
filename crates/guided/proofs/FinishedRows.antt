-- A picture row of the components ks, from the window on: each finished row is the guided one, and the window stands at that row.
-- `component_made` carries it: the value looks at few cells (Congruence), and each of these is held or was just put (Columns). The other
-- component's row is kept since the two lie apart; the components are gone through by induction.
use Rattle.std.proofs.Common.{◌≡◌, refl, sym, ◌∙◌, subst, ◌⊎◌, inl, inr, List, [], ◌∷◌, ℕ, ◌+◌, ◌-◌, ◌/◌, ◌≤◌, ◌<◌, arith, length, Float}
use lib.Ieee.{nan}
use Rattle.laws.specs.Floats.{f32}
use Rattle.laws.proofs.Lists.{length_put, put_inside}
use Rattle.image.specs.Inner.Tests.{Sound}
use Rattle.image.specs.declared.chroma.Chroma.{Chroma}
use Rattle.image.specs.Picture.{Picture}
use Rattle.fround.specs.Rounding.{fmin, fmax}
use Rattle.image.specs.Scratch.{cell_at}
use Rattle.guided.specs.Guided.{Luma, Cell, across_val, extreme, down_to, detail_of, value_of, slope, guided_sample}
use Rattle.guided.specs.Scratch.{finished_at, detail_at, column_at, Cells, Down, Least, Greatest, read_down, catch_up, luma_column, detail_row, component_columns, finished_row, components_over, row_steps}
use Rattle.guided.specs.Calls.{top_of, done_h, done_f}
use Rattle.guided.proofs.Places.{Kept, kept_then, kept_column, kept_front, finished_detail, finished_other, finished_place, detail_place, front_fits}
use Rattle.guided.proofs.Taken.{own_column}
use Rattle.guided.proofs.Congruence.{value_cong}
use Rattle.guided.proofs.Held.{Has}
use Rattle.guided.proofs.Window.{Win, Counters, length_catch_up, win_row}
use Rattle.guided.proofs.Columns.{win_kept, after1, columns_kept, columns_front, read-cells, read-slopes, down_part, down_slope, own_down, AtRow, Done, Stage, staged}

module _ (p : Picture) (y : ℕ) where
  -- a component's part leaves the window
  component_kept : (k : Chroma) (xs : List Float) → Kept p.layout xs (finished_row p k y (component_columns p k y xs))
  unfolding finished_row
  component_kept k xs =
      let l = p.layout in
      kept_then l xs _ _ (columns_kept p y k xs) (kept_front l _ (finished_at l k) l.w _ (omega (arith, finished_place l k)))

  components_kept : (ms : List Chroma) (xs : List Float) → Kept p.layout xs (components_over p y ms xs)
  unfolding components_over
  components_kept [] xs = record { len = refl; slots = λ n i h k. refl }
  components_kept (m ∷ ms) xs = kept_then p.layout xs _ _ (component_kept m xs) (components_kept ms _)

  -- the row put is the one asked for, or that one is as it was
  component_other : (k m : Chroma) (xs : List Float) (x : ℕ) → x < p.layout.w
      → (k ≡ m) ⊎ (cell_at (finished_row p k y (component_columns p k y xs)) (finished_at p.layout m) x ≡ cell_at xs (finished_at p.layout m) x)
  unfolding finished_row
  component_other k m xs x X =
      let l = p.layout in
      let ys = component_columns p k y xs in
      let o : (k ≡ m) ⊎ (cell_at (finished_row p k y ys) (finished_at l m) x ≡ cell_at ys (finished_at l m) x) = finished_other l ys k m _ x X in
      elim o [ inl e ↦ inl e | inr e ↦ inr (e ∙ columns_front p y k xs (finished_at l m + x) (omega (arith, finished_place l m))) ]

  module _ (ks : List Chroma) (s : Sound p.layout) (Y : y < p.layout.h) where
    -- it makes its finished row,
    component_made : (k : Chroma) → Has k ks → (xs : List Float) → Stage p y ks s Y xs → Done p y ks s Y k (finished_row p k y (component_columns p k y xs))
    unfolding finished_row guided_sample
    component_made k h xs g x X =
        let l = p.layout in
        let ys = component_columns p k y xs in
        let L = g.win.room in
        let N = L.0 in
        let c = own_column l s x X in
        let row : ℕ → ℕ → Float = λ n. cell_at ys (column_at l n) in
        let own : Down → ℕ → Float = λ d. read_down l ys d (y / l.rv) in
        let w : AtRow p y ks s Y ys = win_kept p ks _ _ _ xs _ (columns_kept p y k xs) g.win in
        put_inside ys (finished_at l k) l.w (λ x. value_of l (row 0) (row 1) (own (Least k)) (own (Greatest k)) (cell_at ys (detail_at l) x) x) x nan X (omega (arith, finished_place l k, front_fits l, N, (columns_kept p y k xs).len))
        ∙ value_cong l s x X (row 0) (down_to l (across_val p (Cell k)) y) (row 1) (down_to l (slope p k) y) (own (Least k)) (extreme p fmin k (y / l.rv)) (own (Greatest k)) (extreme p fmax k (y / l.rv))
        (cell_at ys (detail_at l) x) (detail_of l (down_to l (across_val p Luma) y) (f32 (p.luma y x)) x)
        (λ i b. read-cells p y k xs L i b.2 ∙ down_part p y ks s Y xs g.win (Cells k) h i b.2)
        (λ i b. read-slopes p y k xs L i b.2 ∙ down_slope p y ks s Y (after1 p y k xs) (win_kept p ks _ _ _ xs _ (kept_column l xs _ _) g.win) k h i b.2)
        (own_down p y ks s Y ys w (Least k) h (x / l.rh) c)
        (own_down p y ks s Y ys w (Greatest k) h (x / l.rh) c)
        (columns_front p y k xs (detail_at l + x) (omega (arith, (detail_place l).1)) ∙ g.detail x X)

    -- keeps the detail
    component_stage : (k : Chroma) (xs : List Float) → Stage p y ks s Y xs → Stage p y ks s Y (finished_row p k y (component_columns p k y xs))
    unfolding finished_row
    component_stage k xs g =
        let l = p.layout in
        record {
          win = win_kept p ks _ _ _ xs _ (component_kept k xs) g.win;
          detail = λ x X. finished_detail l _ k _ x ∙ columns_front p y k xs (detail_at l + x) (omega (arith, (detail_place l).1)) ∙ g.detail x X;
        }

    -- and every finished row that is already there
    component_stays : (k : Chroma) (xs : List Float) → Stage p y ks s Y xs → (m : Chroma) → Has m ks → Done p y ks s Y m xs → Done p y ks s Y m (finished_row p k y (component_columns p k y xs))
    component_stays k xs g m h d x X =
        elim (component_other k m xs x X) [
          | inl e ↦ subst (λ (n : Chroma). Done p y ks s Y m (finished_row p n y (component_columns p n y xs))) (sym e) (component_made m h xs g) x X
          | inr e ↦ e ∙ d x X
        ]

    components_stay : (ms : List Chroma) (xs : List Float) → Stage p y ks s Y xs → (k : Chroma) → Has k ks → Done p y ks s Y k xs → Done p y ks s Y k (components_over p y ms xs)
    unfolding components_over
    components_stay [] xs g k h d = d
    components_stay (m ∷ ms) xs g k h d = components_stay ms _ (component_stage m xs g) k h (component_stays m xs g k h d)

    -- each component of the list has its finished row
    components_made : (ms : List Chroma) (xs : List Float) → Stage p y ks s Y xs → (k : Chroma) → Has k ks → Has k ms → Done p y ks s Y k (components_over p y ms xs)
    unfolding components_over
    components_made [] xs g k h m = absurd m
    components_made (m ∷ ms) xs g k h (inl e) =
        components_stay ms _ (component_stage m xs g) k h (subst (λ (n : Chroma). Done p y ks s Y k (finished_row p n y (component_columns p n y xs))) e (component_made k h xs g))
    components_made (m ∷ ms) xs g k h (inr n) = components_made ms _ (component_stage m xs g) k h n

-- ---- the whole of a row's steps

-- they keep scratch's length
pub length_row : (p : Picture) (ks : List Chroma) (h f n y : ℕ) (xs : List Float) → length (row_steps p ks h f n y xs) ≡ length xs
unfolding row_steps detail_row luma_column
length_row p ks h f n y xs = (components_kept p y ks _).len ∙ length_put _ (detail_at p.layout) p.layout.w _ ∙ length_put _ (column_at p.layout 0) p.layout.cw _ ∙ length_catch_up p ks h f n xs

-- the reader stands at row z with the counters h and f and the window that they tell, and goes on to row y
module _ (p : Picture) (ks : List Chroma) (s : Sound p.layout) (z h f : ℕ) (Z : z < p.layout.h) (c : Counters p.layout z h f) (y : ℕ) (Y : y < p.layout.h) (H : z ≤ y)
    (xs : List Float) (w : Win p ks (top_of p.layout z) h f xs) where
  stage : Stage p y ks s Y (detail_row p y (luma_column p y (catch_up p ks h f (done_f p.layout y - f) xs)))
  stage = staged p y ks s Y _ (win_row p ks s z h f Z c y Y H xs w)

  -- afterwards the window is that of row y and of the counters that row leaves there
  pub row_window : Win p ks (top_of p.layout y) (done_h p.layout y) (done_f p.layout y) (row_steps p ks h f (done_f p.layout y - f) y xs)
  unfolding row_steps
  row_window = win_kept p ks _ _ _ _ _ (components_kept p y ks _) stage.win

  -- and each component's finished row is the guided row
  pub row_finished : (k : Chroma) → Has k ks → (x : ℕ) → x < p.layout.w → cell_at (row_steps p ks h f (done_f p.layout y - f) y xs) (finished_at p.layout k) x ≡ guided_sample p k y x
  unfolding row_steps
  row_finished k m = components_made p y ks s Y ks _ stage k m m
