-- The rows a, a + 1, .. of a picture over scratch: each finds the window that the row before left, and its finished rows are the guided ones.
-- An induction over the rows: the first starts from an empty window, each later one from the window that `row_window` of guided's FinishedRows
-- says was left. The counters are those of a reader, fresh at the first row and done after it, so that nothing is said anew here.
use Rattle.std.proofs.Common.{◌≡◌, refl, ap, ◌∙◌, inl, inr, List, ℕ, zero, suc, ◌+◌, ◌≤◌, ◌<◌, add-one, arith, length, Float}
use Rattle.image.specs.Inner.Tests.{Sound}
use Rattle.image.specs.declared.chroma.Chroma.{Chroma}
use Rattle.image.specs.Picture.{Picture}
use Rattle.image.specs.Scratch.{scratch_need, cell_at}
use Rattle.image.proofs.Surplus.{SameBehind}
use Rattle.guided.specs.Guided.{guided_sample}
use Rattle.guided.specs.Scratch.{finished_at}
use Rattle.guided.specs.Calls.{top_of, fresh_h, fresh_f, done_h, done_f}
use Rattle.guided.proofs.Held.{Has}
use Rattle.guided.proofs.Surplus.{steps_behind}
use Rattle.guided.proofs.Window.{Win, win_fresh}
use Rattle.guided.proofs.FinishedRows.{length_row, row_window, row_finished}
use Rattle.guided_rows.specs.CatchingUp.{before_h, before_f, guided_step, guided_rows}

-- a row keeps scratch's length
pub length_step : (p : Picture) (ks : List Chroma) (a n : ℕ) (xs : List Float) → length (guided_step p ks a n xs) ≡ length xs
unfolding guided_step
length_step p ks a n xs = length_row p ks _ _ _ (a + n) xs

-- and rows leave what is behind the scratch that they need
pub rows_behind : (p : Picture) → p.layout.cw ≤ p.layout.w → (ks : List Chroma) (a n : ℕ) (xs : List Float) → SameBehind p.layout xs (guided_rows p ks a n xs)
unfolding guided_rows guided_step
rows_behind p c ks a zero xs i h = refl
rows_behind p c ks a (suc n) xs i h = steps_behind p c ks _ _ _ (a + n) _ i h ∙ rows_behind p c ks a n xs i h

module _ (p : Picture) (ks : List Chroma) (s : Sound p.layout) (a : ℕ) (xs : List Float) (L : scratch_need p.layout ≤ length xs) where
  -- after row a + n the window is that of row a + n
  rows_window : (n : ℕ) → a + n < p.layout.h → Win p ks (top_of p.layout (a + n)) (done_h p.layout (a + n)) (done_f p.layout (a + n)) (guided_rows p ks a (suc n) xs)
  unfolding guided_rows guided_step before_h before_f
  rows_window zero Y = row_window p ks s a (fresh_h p.layout a) (fresh_f p.layout a) (omega arith) (inl (refl, refl)) (a + 0) Y (omega arith) xs (win_fresh p ks (top_of p.layout a) xs (L, s.cw_most))
  rows_window (suc n) Y =
      row_window p ks s (a + n) (done_h p.layout (a + n)) (done_f p.layout (a + n)) (omega arith) (inr (refl, refl)) (a + suc n) Y (omega arith) (guided_rows p ks a (suc n) xs) (rows_window n (omega arith))

  -- and each component's row at the front is the guided row
  pub rows_finished : (n : ℕ) → a + n < p.layout.h → (k : Chroma) → Has k ks → (x : ℕ) → x < p.layout.w
      → cell_at (guided_step p ks a n (guided_rows p ks a n xs)) (finished_at p.layout k) x ≡ guided_sample p k (a + n) x
  unfolding guided_rows guided_step before_h before_f
  rows_finished zero Y = row_finished p ks s a (fresh_h p.layout a) (fresh_f p.layout a) (omega arith) (inl (refl, refl)) (a + 0) Y (omega arith) xs (win_fresh p ks (top_of p.layout a) xs (L, s.cw_most))
  rows_finished (suc n) Y =
      row_finished p ks s (a + n) (done_h p.layout (a + n)) (done_f p.layout (a + n)) (omega arith) (inr (refl, refl)) (a + suc n) Y (omega arith) (guided_rows p ks a (suc n) xs) (rows_window n (omega arith))

-- ---- a loop over rows

-- scratch after rows a, .. a + n - 1
pub record Advanced (p : Picture) (ks : List Chroma) (a n : ℕ) (before after : List Float) : Type 0 where
  pub len : length after ≡ length before
  pub eq : after ≡ guided_rows p ks a n before

pub advanced_none : (p : Picture) (ks : List Chroma) (a : ℕ) (s : List Float) → Advanced p ks a 0 s s
unfolding guided_rows
advanced_none p ks a s = record { len = refl; eq = refl }

module _ {p : Picture} {ks : List Chroma} {a n : ℕ} {before after : List Float} (w : Advanced p ks a n before after) where
  pub advanced_more : (next : List Float) → next ≡ guided_step p ks a n after → Advanced p ks a (n + 1) before next
  unfolding guided_rows
  advanced_more next e = record { len = ap length e ∙ length_step p ks a n after ∙ w.len; eq = rw (add-one n) (e ∙ ap (guided_step p ks a n) w.eq) }

  pub advanced_end : (m : ℕ) → n ≤ m → m ≤ n → after ≡ guided_rows p ks a m before
  advanced_end m h k = let e : n ≡ m = omega arith in w.eq ∙ ap (λ (i : ℕ). guided_rows p ks a i before) e

  -- the next row's finished rows
  pub advanced_row : Sound p.layout → scratch_need p.layout ≤ length before → a + n < p.layout.h → (k : Chroma) → Has k ks → (x : ℕ) → x < p.layout.w
      → cell_at (guided_step p ks a n after) (finished_at p.layout k) x ≡ guided_sample p k (a + n) x
  advanced_row s L Y k h x X = ap (λ (z : List Float). cell_at (guided_step p ks a n z) (finished_at p.layout k) x) w.eq ∙ rows_finished p ks s a before L n Y k h x X
