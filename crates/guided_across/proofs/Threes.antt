-- Sums of three neighbours with edges repeated, whatever is summed: which cells a value has, and a row in parts.
-- The hard step is that a row is written while it is summed: `Behind` says that what is summed lies before dst, so that stores leave it (`inner_more`, `three_chain`).
use Rattle.std.proofs.Common.{◌≡◌, refl, sym, ap, ◌∙◌, List, ℕ, ◌+◌, ◌-◌, ◌≤◌, ◌<◌, min, arith, set, Float}
use lib.Ieee.{nan}
use Rattle.laws.specs.Floats.{◌⊕◌}
use Rattle.laws.specs.Lists.{put}
use Rattle.laws.proofs.Lists.{put_same, put_before, put_chain}
use Rattle.guided.specs.Guided.{three}
use Rattle.guided_across.specs.Inner.Sums.{three_run, three_row, Behind}
use Rattle.guided_window.proofs.Puts.{put_more}
use Rattle.laws.proofs.Counts.{plus_none, none_plus, plus_plus}

-- a value by its own three cells
pub three_is : (n : ℕ) (g : ℕ → Float) (i l r : ℕ) (v : Float) → l ≡ i - 1 → r ≡ min (i + 1) (n - 1) → v ≡ g l ⊕ g i ⊕ g r → v ≡ three ◌⊕◌ n g i
unfolding three
three_is n g i l r v p q e = rw (sym p, sym q) e

-- cells that are alike have like sums
pub three_same : (op : Float → Float → Float) (n : ℕ) (g h : ℕ → Float) (i : ℕ) → i < n → ((k : ℕ) → k < n → g k ≡ h k) → three op n g i ≡ three op n h i
unfolding three
three_same op n g h i l e = rw (e (i - 1) (omega arith), e i l, e (min (i + 1) (n - 1)) (omega arith)) refl

-- an edge's store
pub three_one : (g : List Float → ℕ → Float) (n dst i : ℕ) (s : List Float) (v : Float) → v ≡ three ◌⊕◌ n (g s) i → set s (dst + i) v ≡ three_run g n dst i 1 s
unfolding three_run put
three_one g n dst i s v e = rw (plus_none (dst + i), plus_none i) (ap (set s (dst + i)) e)

module _ {g : List Float → ℕ → Float} {n dst : ℕ} (o : Behind g n dst) where
  -- a turn's store inside the row: value 1 + i, which is at no edge
  pub inner_more : (xs ys : List Float) (i : ℕ) → ys ≡ put xs (dst + 1) i (λ k. three ◌⊕◌ n (g xs) (1 + k)) → i < n - 2 → (v : Float) → v ≡ g ys i ⊕ g ys (i + 1) ⊕ g ys (i + 2)
      → set ys (dst + 1 + i) v ≡ put xs (dst + 1) (i + 1) (λ k. three ◌⊕◌ n (g xs) (1 + k))
  inner_more xs ys i w h v e =
      let f : ℕ → Float = λ k. three ◌⊕◌ n (g xs) (1 + k) in
      let same : (k : ℕ) → k < n → g ys k ≡ g xs k = λ k l. ap (λ (s : List Float). g s k) w ∙ o.keeps xs (put xs (dst + 1) i f) (λ q r. put_before xs (dst + 1) i f q nan (omega arith)) k l in
      put_more xs ys (dst + 1) i f v w (three_is n (g xs) (1 + i) i (i + 2) v (omega arith) (omega arith)
      (e ∙ alike (g ys i) (g ys (i + 1)) (g ys (i + 2)) (g xs i) (g xs (1 + i)) (g xs (i + 2)) (same i (omega arith)) (same (i + 1) (omega arith) ∙ ap (g xs) (flip i)) (same (i + 2) (omega arith))))
    where
      flip : (i : ℕ) → i + 1 ≡ 1 + i
      flip i = omega arith

      alike : (a b c a' b' c' : Float) → a ≡ a' → b ≡ b' → c ≡ c' → a ⊕ b ⊕ c ≡ a' ⊕ b' ⊕ c'
      alike a b c a' b' c' p q r = rw (p, q, r) refl

  -- m values from `from` on and then k more are one run: the first part leaves what is summed
  three_chain : (from m k : ℕ) (s : List Float) → from + m + k ≤ n → three_run g n dst (from + m) k (three_run g n dst from m s) ≡ three_run g n dst from (m + k) s
  unfolding three_run
  three_chain from m k s h =
      let f : ℕ → Float = λ i. three ◌⊕◌ n (g s) (from + i) in
      let xs = put s (dst + from) m f in
      ap (λ (a : ℕ). put xs a k (λ i. three ◌⊕◌ n (g xs) (from + m + i))) (plus_plus dst from m)
      ∙ put_same xs (dst + from + m) k _ (λ i. f (m + i)) (λ i l.
      three_same ◌⊕◌ n (g xs) (g s) (from + m + i) (omega arith) (o.keeps s xs (λ j q. put_before s (dst + from) m f j nan (omega arith)))
      ∙ ap (λ (j : ℕ). three ◌⊕◌ n (g s) j) (sym (plus_plus from m i)))
      ∙ put_chain s (dst + from) m k f

-- a whole row is the run from 0
whole_is : (g : List Float → ℕ → Float) (n dst : ℕ) (s : List Float) → three_run g n dst 0 n s ≡ three_row g n dst s
unfolding three_run three_row
whole_is g n dst s =
    ap (λ (a : ℕ). put s a n (λ i. three ◌⊕◌ n (g s) (0 + i))) (plus_none dst)
    ∙ put_same s dst n _ _ (λ i l. ap (λ (j : ℕ). three ◌⊕◌ n (g s) j) (none_plus i))

module _ (g : List Float → ℕ → Float) (n dst : ℕ) (s : List Float) where
  -- a row of one value, and a longer one: edge, the inner values, edge
  pub row_one : n ≡ 1 → three_run g n dst 0 1 s ≡ three_row g n dst s
  row_one e = ap (λ (k : ℕ). three_run g n dst 0 k s) (sym e) ∙ whole_is g n dst s

  row_parts : Behind g n dst → 1 < n → three_run g n dst (n - 1) 1 (three_run g n dst 1 (n - 2) (three_run g n dst 0 1 s)) ≡ three_row g n dst s
  row_parts o h =
      let run : ℕ → ℕ → List Float → List Float = three_run g n dst in
      ap (run (n - 1) 1) (three_chain o 0 1 (n - 2) s (omega arith))
      ∙ ap (λ (f : ℕ). run f 1 (run 0 (1 + (n - 2)) s)) (last n h)
      ∙ three_chain o 0 (1 + (n - 2)) 1 s (omega arith)
      ∙ ap (λ (k : ℕ). run 0 k s) (all n h)
      ∙ whole_is g n dst s
    where
      last : (n : ℕ) → 1 < n → n - 1 ≡ 0 + (1 + (n - 2))
      last n h = omega arith

      all : (n : ℕ) → 1 < n → 1 + (n - 2) + 1 ≡ n
      all n h = omega arith

  -- as the callees that make its parts say them
  pub row_made : Behind g n dst → 1 < n → (a b c : List Float) → a ≡ three_run g n dst 0 1 s → b ≡ three_run g n dst 1 (n - 2) a → c ≡ three_run g n dst (n - 1) 1 b → c ≡ three_row g n dst s
  row_made o h a b c p q r = r ∙ ap (three_run g n dst (n - 1) 1) (q ∙ ap (three_run g n dst 1 (n - 2)) p) ∙ row_parts o h
