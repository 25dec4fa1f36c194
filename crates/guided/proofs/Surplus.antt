-- "Any lent slice may be longer; its surplus is untouched": scratch after a row call, behind what the call needs.
-- Every step of a guided row is a run of scratch that ends within the need (Places) where cells are no more than pixels, as in every accepted
-- call, and no other step is taken; a refused call takes none.
use Rattle.std.proofs.Common.{◌≡◌, refl, sym, ◌∙◌, true, List, [], ◌∷◌, ℕ, zero, suc, ◌+◌, ◌-◌, ◌≤◌, ◌<◌, min, arith, get_or, Float}
use lib.Ieee.{nan}
use Rattle.laws.specs.Lists.{put}
use Rattle.laws.specs.Refusals.{accepted}
use Rattle.laws.proofs.Refusals.{accepted_failed, accepted_is}
use Rattle.image.specs.declared.chroma.Chroma.{Chroma}
use Rattle.image.specs.declared.chroma.Chroma.TheVariants.{Cb, Cr}
use Rattle.image.specs.Picture.{Picture, picture_of}
use Rattle.image.specs.Scratch.{scratch_need}
use Rattle.image.proofs.Surplus.{SameBehind, run_behind, call_behind}
use Rattle.guided.specs.Scratch.{slot_at, result_at, column_at, finished_at, detail_at, Stored, num_stored, Down, num_down, parts, down_parts, across_over, down_over, horizontal, finish, across_rows, h_at, catch_up, luma_column, detail_row, component_columns, finished_row, components_over, row_steps}
use Rattle.guided.specs.Calls.{reader_layout, RowCall, RowGiven, row_tests, row_scratch, Reply}
use Rattle.guided.proofs.Places.{slot_fits, result_fits, column_fits, finished_place, detail_place, front_fits}
use Rattle.guided.proofs.Held.{across_small, down_small}
use Rattle.guided.proofs.Acceptance.{fine, row_handed}

module _ (p : Picture) (c : p.layout.cw ≤ p.layout.w) where
  -- chroma rows across and down
  across_behind : (j : ℕ) (qs : List Stored) (xs : List Float) → SameBehind p.layout xs (across_over p j qs xs)
  unfolding across_over
  across_behind j [] xs i h = refl
  across_behind j (q ∷ qs) xs i h = across_behind j qs _ i h ∙ run_behind p.layout xs (slot_at p.layout (num_stored q) j) p.layout.cw _ (slot_fits p.layout (num_stored q) j (across_small q) c) i h

  down_behind : (j : ℕ) (ds : List Down) (xs : List Float) → SameBehind p.layout xs (down_over p j ds xs)
  unfolding down_over
  down_behind j [] xs i h = refl
  down_behind j (d ∷ ds) xs i h = down_behind j ds _ i h ∙ run_behind p.layout xs (result_at p.layout (num_down d) j) p.layout.cw _ (result_fits p.layout (num_down d) j (down_small d) c) i h

  across_rows_behind : (ks : List Chroma) (j n : ℕ) (xs : List Float) → SameBehind p.layout xs (across_rows p ks j n xs)
  unfolding across_rows horizontal
  across_rows_behind ks j zero xs i h = refl
  across_rows_behind ks j (suc n) xs i h = across_behind (j + n) (parts ks) _ i h ∙ across_rows_behind ks j n xs i h

  catch_up_behind : (ks : List Chroma) (a f n : ℕ) (xs : List Float) → SameBehind p.layout xs (catch_up p ks a f n xs)
  unfolding catch_up finish
  catch_up_behind ks a f zero xs i h = refl
  catch_up_behind ks a f (suc n) xs i h =
      down_behind (f + n) (down_parts ks) _ i h
      ∙ across_rows_behind ks (h_at p a f n) (min (f + n + 2) p.layout.ch - h_at p a f n) _ i h
      ∙ catch_up_behind ks a f n xs i h

  -- the columns, the detail and the finished rows of a picture row
  column_behind : (n : ℕ) (g : ℕ → Float) (xs : List Float) → n < 2 → SameBehind p.layout xs (put xs (column_at p.layout n) p.layout.cw g)
  column_behind n g xs h = run_behind p.layout xs (column_at p.layout n) p.layout.cw g (column_fits p.layout n h c)

  component_behind : (k : Chroma) (y : ℕ) (xs : List Float) → SameBehind p.layout xs (finished_row p k y (component_columns p k y xs))
  unfolding finished_row component_columns
  component_behind k y xs i h =
      run_behind p.layout _ (finished_at p.layout k) p.layout.w _ (omega (arith, finished_place p.layout k, front_fits p.layout)) i h
      ∙ column_behind 1 _ _ (omega arith) i h ∙ column_behind 0 _ xs (omega arith) i h

  components_behind : (y : ℕ) (ks : List Chroma) (xs : List Float) → SameBehind p.layout xs (components_over p y ks xs)
  unfolding components_over
  components_behind y [] xs i h = refl
  components_behind y (k ∷ ks) xs i h = components_behind y ks _ i h ∙ component_behind k y xs i h

  luma_behind : (y : ℕ) (xs : List Float) → SameBehind p.layout xs (detail_row p y (luma_column p y xs))
  unfolding detail_row luma_column
  luma_behind y xs i h =
      run_behind p.layout _ (detail_at p.layout) p.layout.w _ (omega (arith, (detail_place p.layout).1, front_fits p.layout)) i h
      ∙ column_behind 0 _ xs (omega arith) i h

  -- a whole row
  pub steps_behind : (ks : List Chroma) (a f n y : ℕ) (xs : List Float) → SameBehind p.layout xs (row_steps p ks a f n y xs)
  unfolding row_steps
  steps_behind ks a f n y xs i h = components_behind y ks _ i h ∙ luma_behind y _ i h ∙ catch_up_behind ks a f n xs i h

pub row_surplus : (k : RowCall) {r : Reply} {scratch out_cb out_cr : List Float} → RowGiven k r scratch out_cb out_cr
    → (i : ℕ) → scratch_need (reader_layout k.reader) ≤ i → get_or scratch i nan ≡ get_or k.scratch i nan
unfolding row_scratch picture_of
row_surplus k {r} {scratch} g =
    let l = reader_layout k.reader in
    let p = picture_of l k.planes in
    call_behind l (accepted r.answer) k.scratch (row_scratch k) scratch g.scratches
    (λ e. steps_behind p (narrow e) (Cb ∷ Cr ∷ []) _ _ _ k.y k.scratch)
  where
    narrow : accepted r.answer ≡ true → (reader_layout k.reader).cw ≤ (reader_layout k.reader).w
    narrow e = (fine k.reader (row_handed k (accepted_failed (row_tests k) (sym g.answers ∙ accepted_is r.answer e))).state).sound.cw_most
