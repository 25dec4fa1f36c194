-- Laws of `put`, `rows` and `table`: reading a run back, chaining runs, comparing them, and the steps of a loop that writes one.
-- Inductions on the run's length over the library's laws of `set`. The hard one is `put_over`, a block that overlaps the run before it:
-- its first part writes what stands there already (`put_again`), and the rest chains on.
use Rattle.std.proofs.Common.{◌≡◌, refl, sym, ap, ◌∙◌, inl, inr, List, [], ◌∷◌, ◌++◌, ℕ, zero, suc, ◌+◌, ◌-◌, ◌*◌, ◌≤◌, ◌<◌, eq-or-lt_of_le, le_of_suc-le-suc, zero-add, suc-mul, add-one, arith, length, get_or, set, take, length-set, length-append, get_or-set_same, get_or-set_other, take-suc-set}
use lib.ListN.{get_or-append}
use lib.Seq.{get_or_at, set-get_or}
use Rattle.laws.proofs.Rows.{rows_apart}
use Rattle.laws.specs.Lists.{put, rows, table}

module _ {A : Type 0} where
  -- a run keeps the length
  pub length_put : (xs : List A) (at n : ℕ) (f : ℕ → A) → length (put xs at n f) ≡ length xs
  unfolding put
  length_put xs at zero f = refl
  length_put xs at (suc n) f = rw length-set (length_put xs at n f)

  -- what lies before the run is as it was
  pub put_before : (xs : List A) (at n : ℕ) (f : ℕ → A) (k : ℕ) (d : A) → k < at → get_or (put xs at n f) k d ≡ get_or xs k d
  unfolding put
  put_before xs at zero f k d h = refl
  put_before xs at (suc n) f k d h = get_or-set_other (put xs at n f) (at + n) k (f n) d (omega arith) ∙ put_before xs at n f k d h

  -- what lies after the run is as it was
  pub put_after : (xs : List A) (at n : ℕ) (f : ℕ → A) (k : ℕ) (d : A) → at + n ≤ k → get_or (put xs at n f) k d ≡ get_or xs k d
  unfolding put
  put_after xs at zero f k d h = refl
  put_after xs at (suc n) f k d h = get_or-set_other (put xs at n f) (at + n) k (f n) d (omega arith) ∙ put_after xs at n f k d (omega arith)

  -- inside the run stands what was put there
  pub put_inside : (xs : List A) (at n : ℕ) (f : ℕ → A) (i : ℕ) (d : A) → i < n → at + n ≤ length xs → get_or (put xs at n f) (at + i) d ≡ f i
  unfolding put
  put_inside xs at zero f i d h l = absurd (omega arith)
  put_inside xs at (suc n) f i d h l =
      elim (eq-or-lt_of_le (le_of_suc-le-suc h)) [
        | inl e ↦ rw e (get_or-set_same (put xs at n f) (at + n) (f n) d (rw length_put (omega arith)))
        | inr q ↦ get_or-set_other (put xs at n f) (at + n) (at + i) (f n) d (omega arith) ∙ put_inside xs at n f i d q (omega arith)
      ]

  -- n values and then m more are one run
  pub put_chain : (xs : List A) (at n m : ℕ) (f : ℕ → A) → put (put xs at n f) (at + n) m (λ i. f (n + i)) ≡ put xs at (n + m) f
  unfolding put
  put_chain xs at n zero f = let e : n ≡ n + 0 = omega arith in ap (λ (k : ℕ). put xs at k f) e
  put_chain xs at n (suc m) f =
      let e : at + n + m ≡ at + (n + m) = omega arith in
      let s : n + suc m ≡ suc (n + m) = omega arith in
      rw (put_chain xs at n m f, e, s) refl

  -- runs of equal values are equal
  pub put_same : (xs : List A) (at n : ℕ) (f g : ℕ → A) → ((i : ℕ) → i < n → f i ≡ g i) → put xs at n f ≡ put xs at n g
  unfolding put
  put_same xs at zero f g h = refl
  put_same xs at (suc n) f g h =
      let e : f n ≡ g n = h n (omega arith) in
      let r : put xs at n f ≡ put xs at n g = put_same xs at n f g (λ i l. h i (omega arith)) in
      cc

  -- a part of a run that is put again changes nothing
  put_again : (xs : List A) (at n : ℕ) (f : ℕ → A) (a k : ℕ) (d : A) → a + k ≤ n → at + n ≤ length xs → put (put xs at n f) (at + a) k (λ i. f (a + i)) ≡ put xs at n f
  unfolding put
  put_again xs at n f a zero d h l = refl
  put_again xs at n f a (suc k) d h l =
      let e : at + a + k ≡ at + (a + k) = omega arith in
      rw (put_again xs at n f a k d (omega arith) l, e, ← (put_inside xs at n f (a + k) d (omega arith) l)) (set-get_or (put xs at n f) (at + (a + k)) d)

  -- n values, and then k of which the first were among them, are one run: a last block may overlap the one before
  pub put_over : (xs : List A) (at n : ℕ) (f : ℕ → A) (a k : ℕ) (d : A) → a ≤ n → n ≤ a + k → at + n ≤ length xs → put (put xs at n f) (at + a) k (λ i. f (a + i)) ≡ put xs at (a + k) f
  put_over xs at n f a k d h g l =
      let ys = put xs at n f in
      let j : ℕ = n - a in
      let r : ℕ = a + k - n in
      let e : k ≡ j + r = omega arith in
      let b : at + a + j ≡ at + n = omega arith in
      let c : n + r ≡ a + k = omega arith in
      ap (λ (m : ℕ). put ys (at + a) m (λ i. f (a + i))) e
      ∙ sym (put_chain ys (at + a) j r (λ i. f (a + i)))
      ∙ ap (λ (zs : List A). put zs (at + a + j) r (λ i. f (a + (j + i)))) (put_again xs at n f a j d (omega arith) l)
      ∙ ap (λ (m : ℕ). put ys m r (λ i. f (a + (j + i)))) b
      ∙ put_same ys (at + n) r _ (λ i. f (n + i)) (λ i q. ap f (place i))
      ∙ put_chain xs at n r f ∙ ap (λ (m : ℕ). put xs at m f) c
    where
      place : (i : ℕ) → a + (n - a + i) ≡ n + i
      place i = omega arith

  -- a run from the start is the list's first n values
  pub take_put : (xs : List A) (n : ℕ) (f : ℕ → A) → n ≤ length xs → take n (put xs zero n f) ≡ table n f
  unfolding put table
  take_put xs zero f l = refl
  take_put xs (suc n) f l = rw (zero-add, take-suc-set (put xs zero n f) n (f n) (rw length_put l)) (ap (λ (t : List A). t ++ (f n ∷ [])) (take_put xs n f (omega arith)))

  pub length_table : (n : ℕ) (f : ℕ → A) → length (table n f) ≡ n
  unfolding table
  length_table zero f = refl
  length_table (suc n) f = rw length-append (rw (length_table n f) (omega arith))

  -- entry i of a table is f(i)
  pub table_at : (n : ℕ) (f : ℕ → A) (i : ℕ) (d : A) → i < n → get_or (table n f) i d ≡ f i
  unfolding table
  table_at zero f i d h = absurd (omega arith)
  table_at (suc n) f i d h =
      elim (eq-or-lt_of_le (le_of_suc-le-suc h)) [
        | inl e ↦ rw e (get_or_at (table n f) (f n) [] d n (length_table n f))
        | inr q ↦ get_or-append (table n f) (f n ∷ []) d i (rw length_table q) ∙ table_at n f i d q
      ]

  -- tables of equal values are equal
  pub table_same : (n : ℕ) (f g : ℕ → A) → ((i : ℕ) → i < n → f i ≡ g i) → table n f ≡ table n g
  unfolding table
  table_same zero f g e = refl
  table_same (suc n) f g e = rw (table_same n f g (λ i l. e i (omega arith)), e n (omega arith)) refl

  -- ---- n rows of w values each, one after another

  pub length_rows : (xs : List A) (w n : ℕ) (f : ℕ → ℕ → A) → length (rows xs w n f) ≡ length xs
  unfolding rows
  length_rows xs w zero f = refl
  length_rows xs w (suc n) f = length_put (rows xs w n f) (n * w) w (f n) ∙ length_rows xs w n f

  -- what lies after the rows is as it was
  pub rows_after : (xs : List A) (w n : ℕ) (f : ℕ → ℕ → A) (k : ℕ) (d : A) → n * w ≤ k → get_or (rows xs w n f) k d ≡ get_or xs k d
  unfolding rows
  rows_after xs w zero f k d h = refl
  rows_after xs w (suc n) f k d h =
      let s : suc n * w ≡ n * w + w = suc-mul n w in
      put_after (rows xs w n f) (n * w) w (f n) k d (omega arith) ∙ rows_after xs w n f k d (omega arith)

  -- column x of row y is f(y)(x)
  pub rows_inside : (xs : List A) (w n : ℕ) (f : ℕ → ℕ → A) (x y : ℕ) (d : A) → x < w → y < n → n * w ≤ length xs → get_or (rows xs w n f) (y * w + x) d ≡ f y x
  unfolding rows
  rows_inside xs w zero f x y d k h l = absurd (omega arith)
  rows_inside xs w (suc n) f x y d k h l =
      let s : suc n * w ≡ n * w + w = suc-mul n w in
      elim (eq-or-lt_of_le (le_of_suc-le-suc h)) [
        | inl e ↦ rw e (put_inside (rows xs w n f) (n * w) w (f n) x d k (rw length_rows (omega arith)))
        | inr q ↦ put_before (rows xs w n f) (n * w) w (f n) (y * w + x) d (rows_apart y n w x q k) ∙ rows_inside xs w n f x y d k q (omega arith)
      ]

  -- rows of equal values are equal
  pub rows_same : (xs : List A) (w n : ℕ) (f g : ℕ → ℕ → A) → ((y x : ℕ) → y < n → x < w → f y x ≡ g y x) → rows xs w n f ≡ rows xs w n g
  unfolding rows
  rows_same xs w zero f g h = refl
  rows_same xs w (suc n) f g h =
      ap (λ (ys : List A). put ys (n * w) w (f n)) (rows_same xs w n f g (λ y x k l. h y x (omega arith) l))
      ∙ put_same (rows xs w n g) (n * w) w (f n) (g n) (λ x l. h n x (omega arith) l)

-- ---- a loop that writes a run: its invariant is `Run`, and its three steps are `run_none`, `run_more` and `run_end`

-- ys is xs after the first n values of f were put from `at` on
pub record Run {A : Type 0} (xs ys : List A) (at n : ℕ) (f : ℕ → A) : Type 0 where
  pub len : length ys ≡ length xs
  pub eq : ys ≡ put xs at n f

pub run_none : {A : Type 0} (xs : List A) (at : ℕ) (f : ℕ → A) → Run xs xs at 0 f
unfolding put
run_none xs at f = record { len = refl; eq = refl }

module _ {A : Type 0} {xs ys : List A} {at n : ℕ} {f : ℕ → A} (r : Run xs ys at n f) where
  -- a turn's store
  pub run_more : (v : A) → v ≡ f n → Run xs (set ys (at + n) v) at (n + 1) f
  unfolding put
  run_more v h =
      let q = r.eq in
      let z : set ys (at + n) v ≡ set (put xs at n f) (at + n) (f n) = cc in
      record { len = length-set ys (at + n) v ∙ r.len; eq = rw (add-one n) z }

  -- the same run, counted another way
  pub run_at : (m : ℕ) → n ≡ m → Run xs ys at m f
  run_at m e = let z = r.eq in record { len = r.len; eq = (cc) }

  -- the loop's end, at the bound m
  pub run_end : (m : ℕ) → n ≤ m → m ≤ n → ys ≡ put xs at m f
  run_end m h g = let q : n ≡ m = omega arith in let z = r.eq in cc

  pub run_before : (k : ℕ) (d : A) → k < at → get_or ys k d ≡ get_or xs k d
  run_before k d h = ap (λ (l : List A). get_or l k d) r.eq ∙ put_before xs at n f k d h

  pub run_after : (k : ℕ) (d : A) → at + n ≤ k → get_or ys k d ≡ get_or xs k d
  run_after k d h = ap (λ (l : List A). get_or l k d) r.eq ∙ put_after xs at n f k d h

  pub run_inside : (i : ℕ) (d : A) → i < n → at + n ≤ length xs → get_or ys (at + i) d ≡ f i
  run_inside i d h b = ap (λ (l : List A). get_or l (at + i) d) r.eq ∙ put_inside xs at n f i d h b

-- an array that is filled from the front
module _ {A : Type 0} {xs ys : List A} {n : ℕ} {f : ℕ → A} (r : Run xs ys 0 n f) where
  pub front_more : (v : A) → v ≡ f n → Run xs (set ys n v) 0 (n + 1) f
  front_more v e = rw (zero-add n) at (run_more r v e)

  pub front_at : (i : ℕ) (d : A) → i < n → n ≤ length xs → get_or ys i d ≡ f i
  front_at i d h b = rw (zero-add i) at (run_inside r i d h (rw (zero-add n) b))

-- ---- runs that are written by a callee, or two values at a time

-- what a callee wrote is a run
pub run_of : {A : Type 0} (xs ys : List A) (at n : ℕ) (f : ℕ → A) → ys ≡ put xs at n f → Run xs ys at n f
run_of xs ys at n f e = record { len = ap length e ∙ length_put xs at n f; eq = e }

module _ {A : Type 0} {xs ys : List A} {at n : ℕ} {f : ℕ → A} (r : Run xs ys at n f) where
  -- a store at p, the run's end
  pub run_one : (zs : List A) (p m : ℕ) (v : A) → zs ≡ set ys p v → p ≡ at + n → m ≡ n + 1 → v ≡ f n → Run xs zs at m f
  run_one zs p m v z e g h = rw (z, e, g) (run_more r v h)

  -- a callee's run, from the run's end on
  pub run_run : (zs : List A) (p m k : ℕ) → zs ≡ put ys p k (λ i. f (n + i)) → p ≡ at + n → m ≡ n + k → Run xs zs at m f
  run_run zs p m k z e g = record {
    len = ap length z ∙ length_put ys p k (λ i. f (n + i)) ∙ r.len;
    eq = let q = r.eq in rw (z, e, g, q) (put_chain xs at n k f);
  }

-- a block that begins at value a of a run, or at its end, and reaches its end or beyond
pub run_over : {A : Type 0} {xs ys : List A} {at n : ℕ} {f : ℕ → A} → Run xs ys at n f → (zs : List A) (a k : ℕ) (d : A) → zs ≡ put ys (at + a) k (λ i. f (a + i)) → a ≤ n → n ≤ a + k → at + n ≤ length xs → Run xs zs at (a + k) f
run_over {A} {xs} {ys} {at} {n} {f} r zs a k d z h g l = record {
  len = ap length z ∙ length_put ys (at + a) k (λ i. f (a + i)) ∙ r.len;
  eq = z ∙ ap (λ (t : List A). put t (at + a) k (λ i. f (a + i))) r.eq ∙ put_over xs at n f a k d h g l;
}

-- two stores, at p and behind it
pub run_two : {A : Type 0} {xs ys : List A} {at n : ℕ} {f : ℕ → A} → Run xs ys at n f → (zs : List A) (p m : ℕ) (v u : A) → zs ≡ set (set ys p v) (p + 1) u → p ≡ at + n → m ≡ n + 2 → v ≡ f n → u ≡ f (n + 1) → Run xs zs at m f
run_two {A} {xs} {ys} {at} {n} {f} r zs p m v u z e g h k =
    run_one (run_one r (set ys p v) p (n + 1) v refl e refl h) zs (p + 1) m u z (omega arith) (omega arith) k

-- ---- a loop over rows: its invariant is `Rows`, and its steps are `rows_none`, `rows_more` and `rows_end`

-- ys is xs after the first n rows of w values of f were written
pub record Rows {A : Type 0} (xs ys : List A) (w n : ℕ) (f : ℕ → ℕ → A) : Type 0 where
  pub len : length ys ≡ length xs
  pub eq : ys ≡ rows xs w n f

pub rows_none : {A : Type 0} (xs : List A) (w : ℕ) (f : ℕ → ℕ → A) → Rows xs xs w 0 f
unfolding rows
rows_none xs w f = record { len = refl; eq = refl }

module _ {A : Type 0} {xs ys : List A} {w n : ℕ} {f : ℕ → ℕ → A} (r : Rows xs ys w n f) where
  -- a turn's row, as a callee that writes it says
  pub rows_more : (zs : List A) → zs ≡ put ys (n * w) w (f n) → Rows xs zs w (n + 1) f
  unfolding rows
  rows_more zs h =
      let q = r.eq in
      let z : zs ≡ put (rows xs w n f) (n * w) w (f n) = cc in
      record { len = ap length h ∙ length_put ys (n * w) w (f n) ∙ r.len; eq = rw (add-one n) z }

  -- the loop's end, at the bound m
  pub rows_end : (m : ℕ) → n ≤ m → m ≤ n → ys ≡ rows xs w m f
  rows_end m h g = let q : n ≡ m = omega arith in let z = r.eq in cc
