-- A row of pixels by runs of columns, whatever it is a row of: what is written lies before what its values are made of.
use Rattle.std.proofs.Common.{◌≡◌, ℕ, ◌+◌, ◌-◌, ◌*◌, ◌≤◌, ◌<◌, List, Float, length, get_or, set, refl, sym, ap, ◌∙◌, arith}
use Rattle.std.specs.Float.{nan}
use Rattle.laws.specs.Lists.{put}
use Rattle.laws.proofs.Lists.{put_same, put_after, put_chain}
use Rattle.laws.proofs.Rows.{next_row, row_fits}
use Rattle.laws.proofs.Counts.{none_plus, plus_plus, part_rest}
use Rattle.guided_window.proofs.Puts.{put_more, put_block}
use Rattle.guided_pixels.specs.Inner.Lines.{Alike, Keeps, line_run}

-- cell i + 1 of n + 2 ends inside the row
pub each_inside : (r w i n : ℕ) → i < n → r + n * r ≤ w → (i + 1) * r + r ≤ w
each_inside r w i n h k =
    let a : i * r + r ≤ n * r = row_fits i n r h in
    let b : (i + 1) * r ≡ i * r + r = next_row i r in
    omega arith

pub ratio_inside : (r q n w : ℕ) → r ≡ q → r + n * r ≤ w → q + n * q ≤ w
ratio_inside r q n w e h = rw e at h

module _ (f : List Float → ℕ → Float) (low dst w : ℕ) (h : dst + w ≤ low) (o : Keeps f low w) where
  -- what was put before `low` leaves what lies behind
  pub left : (xs ys : List Float) (from n : ℕ) (g : ℕ → Float) → ys ≡ put xs (dst + from) n g → from + n ≤ w → Alike low xs ys
  left xs ys from n g e k = record { reads = λ q t. ap (λ (s : List Float). get_or s q nan) e ∙ put_after xs (dst + from) n g q nan (omega arith) }

  -- a value more
  pub line_more : (xs ys : List Float) (from i : ℕ) (v : Float) → ys ≡ put xs (dst + from) i (λ k. f xs (from + k)) → v ≡ f ys (from + i) → from + i < w
      → set ys (dst + from + i) v ≡ put xs (dst + from) (i + 1) (λ k. f xs (from + k))
  line_more xs ys from i v e p k = put_more xs ys (dst + from) i _ v e (p ∙ o.keeps xs ys (left xs ys from i _ e (omega arith)) (from + i) k)

  -- m columns and then k more
  line_chain : (from m k : ℕ) (s : List Float) → from + m + k ≤ w → line_run f dst (from + m) k (line_run f dst from m s) ≡ line_run f dst from (m + k) s
  unfolding line_run
  line_chain from m k s l =
      let g : ℕ → Float = λ i. f s (from + i) in
      let xs = put s (dst + from) m g in
      ap (λ (a : ℕ). put xs a k (λ i. f xs (from + m + i))) (plus_plus dst from m)
      ∙ put_same xs (dst + from + m) k _ (λ i. g (m + i)) (λ i t. o.keeps s xs (left s xs from m g refl (omega arith)) (from + m + i) (omega arith) ∙ ap (f s) (sym (plus_plus from m i)))
      ∙ put_chain s (dst + from) m k g

  -- a cell more, of r columns, from cell 1 on
  pub each_more : (r n : ℕ) (xs ys zs : List Float) → ys ≡ line_run f dst r (n * r) xs → zs ≡ line_run f dst ((n + 1) * r) r ys → (n + 1) * r + r ≤ w → zs ≡ line_run f dst r ((n + 1) * r) xs
  each_more r n xs ys zs e p k =
      let a : (n + 1) * r ≡ n * r + r = next_row n r in
      let b : (n + 1) * r ≡ r + n * r = omega arith in
      p ∙ ap (line_run f dst ((n + 1) * r) r) e ∙ ap (λ (x : ℕ). line_run f dst x r (line_run f dst r (n * r) xs)) b ∙ line_chain r (n * r) r xs (omega arith)
      ∙ ap (λ (m : ℕ). line_run f dst r m xs) (sym a)

  -- a row: the first cell's columns, m more, and the rest
  pub runs_made : (r m : ℕ) (s a b c : List Float) → r + m ≤ w → a ≡ line_run f dst 0 r s → b ≡ line_run f dst r m a → c ≡ line_run f dst (r + m) (w - (r + m)) b → c ≡ line_run f dst 0 w s
  runs_made r m s a b c k p q t =
      t ∙ ap (line_run f dst (r + m) (w - (r + m))) (q ∙ ap (line_run f dst r m) p)
      ∙ ap (λ (x : ℕ). line_run f dst (r + m) (w - (r + m)) (line_run f dst x m (line_run f dst 0 r s))) (sym (none_plus r))
      ∙ ap (line_run f dst (r + m) (w - (r + m))) (line_chain 0 r m s (omega arith))
      ∙ ap (λ (x : ℕ). line_run f dst x (w - (r + m)) (line_run f dst 0 (r + m) s)) (sym (none_plus (r + m)))
      ∙ line_chain 0 (r + m) (w - (r + m)) s (omega arith)
      ∙ ap (λ (n : ℕ). line_run f dst 0 n s) (part_rest (r + m) w k)

  -- the pixels of cell i + 1 and the seven behind it, at ratio 2, behind those of `done` cells or over the last of them
  pub twos_more : (done i to : ℕ) (xs ys zs : List Float) → ys ≡ line_run f dst 2 (2 * done) xs → zs ≡ line_run f dst (2 + 2 * i) 16 ys
      → i ≤ done → done ≤ i + 8 → to ≡ i + 8 → 2 + 2 * done ≤ w → 2 + 2 * to ≤ w → low ≤ length xs → zs ≡ line_run f dst 2 (2 * to) xs
  unfolding line_run
  twos_more done i to xs ys zs e z a b t k l m =
      let place : dst + (2 + 2 * i) ≡ dst + 2 + 2 * i = omega arith in
      put_block xs ys zs (dst + 2) (2 * done) (2 * i) 16 (2 * to) (λ x. f xs (2 + x)) (λ j. f ys (2 + 2 * i + j)) nan e (z ∙ ap (λ (p : ℕ). put ys p 16 (λ j. f ys (2 + 2 * i + j))) place)
      (λ j q. o.keeps xs ys (left xs ys 2 _ _ e (omega arith)) (2 + 2 * i + j) (omega arith) ∙ ap (f xs) (sym (plus_plus 2 (2 * i) j))) (omega arith) (omega arith) (omega arith) (omega arith)

-- a block, as it was made and stored
pub block_is : (f : List Float → ℕ → Float) (dst i : ℕ) (ys zs block : List Float) → zs ≡ put ys (dst + 2 + 2 * i) 16 (λ k. get_or block k nan) → ((k : ℕ) → k < 16 → get_or block k nan ≡ f ys (2 + 2 * i + k))
    → zs ≡ line_run f dst (2 + 2 * i) 16 ys
unfolding line_run
block_is f dst i ys zs block e h =
    let place : dst + (2 + 2 * i) ≡ dst + 2 + 2 * i = omega arith in
    rw place (e ∙ put_same ys (dst + 2 + 2 * i) 16 _ (λ k. f ys (2 + 2 * i + k)) h)

pub each_none : (f : List Float → ℕ → Float) (dst r : ℕ) (xs : List Float) → xs ≡ line_run f dst r (0 * r) xs
unfolding line_run put
each_none f dst r xs = let e : 0 * r ≡ 0 = omega arith in rw e refl

pub ratio_run : (f : List Float → ℕ → Float) (dst r q n m : ℕ) (s : List Float) → r ≡ q → m ≡ n * q → line_run f dst q m s ≡ line_run f dst r (n * r) s
ratio_run f dst r q n m s e h = rw (e, h) refl
