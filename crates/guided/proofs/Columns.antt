-- From the window to the finished rows of one picture row: they are the guided samples, and the window is kept.
-- Where a put is read back Places says so, and all else is kept. The hard step is `down_part` and `down_slope`: the rows that row y takes from
-- are among the last three that the window holds, by `Taken`, so that lerping them is lerping the picture's.
use Rattle.std.proofs.Common.{◌≡◌, refl, ◌∙◌, List, ℕ, ◌+◌, ◌*◌, ◌/◌, ◌%◌, ◌<◌, arith, length, get_or, Float}
use lib.Ieee.{nan}
use Rattle.laws.specs.Floats.{f32}
use Rattle.laws.specs.Lists.{put}
use Rattle.laws.proofs.Lists.{length_put, put_inside}
use Rattle.image.specs.Inner.Tests.{Sound}
use Rattle.image.specs.declared.chroma.Chroma.{Chroma}
use Rattle.image.specs.Picture.{Picture}
use Rattle.image.specs.Scratch.{cell_at}
use Rattle.guided.specs.Guided.{Luma, Cell, across_val, down_to, detail_of, slope, guided_sample}
use Rattle.guided.specs.Scratch.{finished_at, detail_at, slot_at, result_at, column_at, Stored, Lumas, part_of, Down, Slope, num_stored, num_down, read_stored, read_across, read_down, luma_column, detail_row, component_columns}
use Rattle.guided.specs.Calls.{top_of, done_h, done_f}
use Rattle.guided.proofs.Places.{Room, Kept, kept_then, kept_column, kept_front, column_same, column_other, column_front, detail_place, front_fits, slot_number, result_number}
use Rattle.guided.proofs.Taken.{taken}
use Rattle.guided.proofs.Congruence.{down_cong, detail_cong}
use Rattle.guided.proofs.Held.{Has, Makes, component_of, down_val, across_small, down_small, read_is}
use Rattle.guided.proofs.Window.{Win}

-- what keeps the first 33 buffers keeps the window
pub win_kept : (p : Picture) (ks : List Chroma) (t h f : ℕ) (xs ys : List Float) → Kept p.layout xs ys → Win p ks t h f xs → Win p ks t h f ys
unfolding read_stored read_down slot_at result_at
win_kept p ks t h f xs ys k w = record {
  room = rw k.len w.room;
  sums = λ r A B C q m i I. k.slots (r % 3 * 7 + num_stored q) i (slot_number (num_stored q) r (across_small q)) I ∙ w.sums r A B C q m i I;
  down_parts = λ r A B C d e i I. k.slots (21 + (r % 2 * 6 + num_down d)) i (result_number (num_down d) r (down_small d)) I ∙ w.down_parts r A B C d e i I;
}

-- ---- a component's two rows of cells, then the finished row

module _ (p : Picture) (y : ℕ) where
  module _ (k : Chroma) (xs : List Float) where
    -- scratch after the first of the two
    abbrev pub column : ℕ → ℕ
    column n = column_at p.layout n

    abbrev pub after1 : List Float
    after1 = put xs (column 0) p.layout.cw (down_to p.layout (read_across p.layout xs (Cell k)) y)

    -- they leave the window
    pub columns_kept : Kept p.layout xs (component_columns p k y xs)
    unfolding component_columns
    columns_kept = kept_then p.layout xs after1 _ (kept_column p.layout xs _ _) (kept_column p.layout after1 _ _)

    -- and the finished rows and the detail
    pub columns_front : (n : ℕ) → n < 3 * p.layout.w → get_or (component_columns p k y xs) n nan ≡ get_or xs n nan
    unfolding component_columns
    columns_front n h = column_front p.layout after1 _ _ n h ∙ column_front p.layout xs _ _ n h

    -- and what each of the two holds
    module _ (L : Room p.layout xs) (i : ℕ) (I : i < p.layout.cw) where
      pub read-cells : cell_at (component_columns p k y xs) (column 0) i ≡ down_to p.layout (read_across p.layout xs (Cell k)) y i
      unfolding component_columns
      read-cells = column_other p.layout after1 _ _ _ i I (omega arith) ∙ column_same p.layout xs 0 _ i (omega arith) I L

      pub read-slopes : cell_at (component_columns p k y xs) (column 1) i ≡ down_to p.layout (read_down p.layout after1 (Slope k)) y i
      unfolding component_columns
      read-slopes = column_same p.layout after1 1 _ i (omega arith) I (rw length_put L)

  -- ---- over the window at row y

  module _ (ks : List Chroma) (s : Sound p.layout) (Y : y < p.layout.h) where
    abbrev pub AtRow : List Float → Type 0
    AtRow xs = Win p ks (top_of p.layout y) (done_h p.layout y) (done_f p.layout y) xs

    -- a part of the window lerped down is the picture's
    pub down_part : (xs : List Float) → AtRow xs → (q : Stored) → Makes ks q → (i : ℕ) → i < p.layout.cw → down_to p.layout (read_across p.layout xs (part_of q)) y i ≡ down_to p.layout (across_val p (part_of q)) y i
    down_part xs w q m i I =
        let t = taken p.layout s y Y in
        down_cong p.layout s y Y (read_across p.layout xs (part_of q)) (across_val p (part_of q)) i (λ j A B. read_is p.layout xs q j i ∙ w.sums j (omega arith) (omega (arith, t.inside)) (omega (arith, t.near)) q m i I)

    -- and so is a slope
    pub down_slope : (xs : List Float) → AtRow xs → (k : Chroma) → Has k ks → (i : ℕ) → i < p.layout.cw → down_to p.layout (read_down p.layout xs (Slope k)) y i ≡ down_to p.layout (slope p k) y i
    down_slope xs w k m i I =
        let t = taken p.layout s y Y in
        down_cong p.layout s y Y (read_down p.layout xs (Slope k)) (slope p k) i (λ j A B. w.down_parts j A (omega arith) (omega (arith, t.near)) (Slope k) m i I)

    -- what was made down of the row's own chroma row is held too
    pub own_down : (xs : List Float) → AtRow xs → (d : Down) → Has (component_of d) ks → (i : ℕ) → i < p.layout.cw → read_down p.layout xs d (y / p.layout.rv) i ≡ down_val p d (y / p.layout.rv) i
    own_down xs w d m i I =
        let t = taken p.layout s y Y in
        w.down_parts (y / p.layout.rv) t.above (omega (arith, t.below)) (omega (arith, t.above, t.near)) d m i I

    -- the detail is held, and component k's finished row
    abbrev pub Detailed : List Float → Type 0
    Detailed xs = (x : ℕ) → x < p.layout.w → cell_at xs (detail_at p.layout) x ≡ detail_of p.layout (down_to p.layout (across_val p Luma) y) (f32 (p.luma y x)) x

    abbrev pub Done : Chroma → List Float → Type 0
    Done k xs = (x : ℕ) → x < p.layout.w → cell_at xs (finished_at p.layout k) x ≡ guided_sample p k y x

    -- the window is there, and the detail of the row
    pub record Stage (xs : List Float) : Type 0 where
      pub win : AtRow xs
      pub detail : Detailed xs

    -- luma's column and the detail leave the window
    pub luma_kept : (xs : List Float) → Kept p.layout xs (detail_row p y (luma_column p y xs))
    unfolding detail_row luma_column
    luma_kept xs = kept_then p.layout xs _ _ (kept_column p.layout xs 0 _) (kept_front p.layout _ (detail_at p.layout) p.layout.w _ (detail_place p.layout).1)

    luma_read : (xs : List Float) → AtRow xs → (i : ℕ) → i < p.layout.cw → cell_at (luma_column p y xs) (column_at p.layout 0) i ≡ down_to p.layout (across_val p Luma) y i
    unfolding luma_column
    luma_read xs w i I = column_same p.layout xs 0 _ i (omega arith) I w.room ∙ down_part xs w Lumas tt i I

    length_luma : (xs : List Float) → length (luma_column p y xs) ≡ length xs
    unfolding luma_column
    length_luma xs = length_put xs _ _ _

    detail_made : (xs : List Float) → AtRow xs → Detailed (detail_row p y (luma_column p y xs))
    unfolding detail_row
    detail_made xs w x X =
        let l = p.layout in
        let ys = luma_column p y xs in
        put_inside ys (detail_at l) l.w (λ x. detail_of l (cell_at ys (column_at l 0)) (f32 (p.luma y x)) x) x nan X (omega (arith, (detail_place l).1, front_fits l, w.room.0, length_luma xs))
        ∙ detail_cong l s x X (cell_at ys (column_at l 0)) (down_to l (across_val p Luma) y) (f32 (p.luma y x)) (f32 (p.luma y x)) (λ i b. luma_read xs w i b.2) refl

    -- and make a stage
    pub staged : (xs : List Float) → AtRow xs → Stage (detail_row p y (luma_column p y xs))
    staged xs w = record { win = win_kept p ks _ _ _ xs _ (luma_kept xs) w; detail = detail_made xs w }
