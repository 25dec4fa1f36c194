-- Laws of `any_of` and of `above`: what they say of each index, and why the greatest of a row decides.
use Rattle.std.proofs.Common.{◌≡◌, refl, sym, ap, ◌∙◌, Bool, true, false, ◌||◌, ◌&&◌, not, cond, List, [], ◌∷◌, ◌⊎◌, inl, inr, ⊎_elim, ℕ, zero, suc, ◌+◌, ◌-◌, ◌*◌, ◌≤◌, ◌<◌, max, add-one, arith, ltb, eqb, get_or, length, take, drop, lt-ltb, le-ltb, ltb-true, ltb-false}
use lib.Pointwise.{pointwise}
use Rattle.std.proofs.lemmas.List.{get_or-take, get_or-drop, length-take, length-drop}
use Rattle.image.specs.declared.layout.Layout.{Layout}
use Rattle.image.specs.Tests.{most_of}
use Rattle.image.specs.Samples.{Plane, sample_of, sample_at, place}
use Rattle.image.specs.Picture.{inside, picture_of, Planes}
use Rattle.image.specs.Limits.{any_of, above, above_any, exceeds}
use Rattle.image.specs.Inner.Limits.{greatest}
use Rattle.image.proofs.Layouts.{neither}
use Rattle.image.proofs.Pictures.{inside_is}

-- ---- one more, as a loop counts

pub any_more : (n : ℕ) (p : ℕ → Bool) → any_of (n + 1) p ≡ (any_of n p || p n)
unfolding any_of
any_more n p = rw add-one refl

pub greatest_more : (n : ℕ) (f : ℕ → ℕ) → greatest (n + 1) f ≡ max (greatest n f) (f n)
unfolding greatest
greatest_more n f = rw add-one refl

-- ---- what it says of each index

-- none passes
pub any_none : (n : ℕ) (p : ℕ → Bool) → any_of n p ≡ false → (i : ℕ) → i < n → p i ≡ false
unfolding any_of
any_none zero p e i h = absurd (omega arith)
any_none (suc n) p e i h =
    let q = neither (any_of n p) (p n) e in
    ⊎_elim (λ k. any_none n p q.0 i k) (λ k. rw k q.1) (below i n h)
  where
    below : (i n : ℕ) → i < suc n → (i < n) ⊎ (i ≡ n)
    below i n h = go (ltb i n) (ltb-true i n) (ltb-false i n)
      where
        go : (t : Bool) → (t ≡ true → i < n) → (t ≡ false → n ≤ i) → (i < n) ⊎ (i ≡ n)
        go true y z = inl (y refl)
        go false y z = let k = z refl in inr (omega arith)

-- and the other way round
pub none_any : (n : ℕ) (p : ℕ → Bool) → ((i : ℕ) → i < n → p i ≡ false) → any_of n p ≡ false
unfolding any_of
none_any zero p f = refl
none_any (suc n) p f = rw (none_any n p (λ i h. f i (omega arith)), f n (omega arith)) refl

-- one that passes is enough
pub any_some : (n : ℕ) (p : ℕ → Bool) (i : ℕ) → i < n → p i ≡ true → any_of n p ≡ true
any_some n p i h e = go (any_of n p) (any_none n p)
  where
    go : (t : Bool) → (t ≡ false → (j : ℕ) → j < n → p j ≡ false) → t ≡ true
    go true f = refl
    go false f = sym (f refl i h) ∙ e

-- tests that agree below n
pub any_same : (n : ℕ) (p q : ℕ → Bool) → ((i : ℕ) → i < n → p i ≡ q i) → any_of n p ≡ any_of n q
unfolding any_of
any_same zero p q f = refl
any_same (suc n) p q f = rw (any_same n p q (λ i h. f i (omega arith)), f n (omega arith)) refl

-- ---- the greatest decides

either_above : (m a b : ℕ) → ltb m (max a b) ≡ (ltb m a || ltb m b)
either_above m a b = go (ltb m a) (ltb-true m a) (ltb-false m a)
  where
    go : (t : Bool) → (t ≡ true → m < a) → (t ≡ false → a ≤ m) → ltb m (max a b) ≡ (t || ltb m b)
    go true y z = let k = y refl in lt-ltb m (max a b) (omega arith)
    go false y z = let k = z refl in second (ltb m b) (ltb-true m b) (ltb-false m b) k
      where
        second : (t : Bool) → (t ≡ true → m < b) → (t ≡ false → b ≤ m) → a ≤ m → ltb m (max a b) ≡ t
        second true y z k = let j = y refl in lt-ltb m (max a b) (omega arith)
        second false y z k = let j = z refl in le-ltb m (max a b) (omega arith)

-- a row's greatest sample is above m where one of them is
pub greatest_above : (n m : ℕ) (f : ℕ → ℕ) → ltb m (greatest n f) ≡ any_of n (λ i. ltb m (f i))
unfolding any_of greatest
greatest_above zero m f = le-ltb m 0 (omega arith)
greatest_above (suc n) m f = either_above m (greatest n f) (f n) ∙ ap (λ (t : Bool). t || ltb m (f n)) (greatest_above n m f)

-- ---- where nothing can exceed

-- a sample holds no more than its bytes do
pub sample_most : (bytes : ℕ) (plane : List ℕ) (at : ℕ) → ((i : ℕ) → get_or plane i 0 < 256) → sample_of bytes plane at ≤ most_of bytes
unfolding sample_of
sample_most bytes plane at f = go (eqb bytes 1)
  where
    go : (t : Bool) → cond t (get_or plane at 0) (get_or plane at 0 + 256 * get_or plane (at + 1) 0) ≤ cond t 255 65535
    go true = omega (arith, f at)
    go false = omega (arith, f at, f (at + 1))

-- so at maxval 255 of one byte, or 65,535 of two, nothing exceeds
pub above_none : (l : Layout) (w h : ℕ) (p : Plane) → ((i : ℕ) → get_or p.bytes i 0 < 256) → most_of l.sample_bytes ≤ l.maxval → above l w h p ≡ false
unfolding above sample_at
above_none l w h p f k =
    none_any h _ (λ y _. none_any w _ (λ x _. le-ltb l.maxval (sample_at l.sample_bytes p y x) (omega (arith, sample_most l.sample_bytes p.bytes (place l.sample_bytes p.stride y x) f))))

-- no sample inside a plane that passes is above maxval
pub above_within : (l : Layout) (w h : ℕ) (p : Plane) → above l w h p ≡ false → (x y : ℕ) → x < w → y < h → sample_at l.sample_bytes p y x ≤ l.maxval
unfolding above
above_within l w h p e x y i j = ltb-false l.maxval (sample_at l.sample_bytes p y x) (any_none w (λ x. ltb l.maxval (sample_at l.sample_bytes p y x)) (any_none h (λ y. any_of w (λ x. ltb l.maxval (sample_at l.sample_bytes p y x))) e y j) x i)

-- and one that is is enough
pub above_found : (l : Layout) (w h : ℕ) (p : Plane) (x y : ℕ) → x < w → y < h → l.maxval < sample_at l.sample_bytes p y x → above l w h p ≡ true
unfolding above
above_found l w h p x y i j k = any_some h _ y j (any_some w (λ x. ltb l.maxval (sample_at l.sample_bytes p y x)) x i (lt-ltb l.maxval (sample_at l.sample_bytes p y x) k))

-- ---- padding and surplus are not looked at: the test is one of the picture

plane_exceeds : (l : Layout) (w h : ℕ) (p : Plane) → above l w h p ≡ any_of h (λ y. any_of w (λ x. ltb l.maxval (inside w h (sample_at l.sample_bytes p) y x)))
unfolding above
plane_exceeds l w h p =
    let f : ℕ → ℕ → ℕ = sample_at l.sample_bytes p in
    any_same h (λ y. any_of w (λ x. ltb l.maxval (f y x))) (λ y. any_of w (λ x. ltb l.maxval (inside w h f y x))) (λ y j. any_same w (λ x. ltb l.maxval (f y x)) (λ x. ltb l.maxval (inside w h f y x)) (λ x i. ap (λ (v : ℕ). ltb l.maxval v) (sym (inside_is w h f x y i j))))

pub planes_exceed : (l : Layout) (ps : Planes) → above_any l ps ≡ exceeds (picture_of l ps)
unfolding above_any exceeds picture_of
planes_exceed l ps = rw (plane_exceeds l l.w l.h ps.y, plane_exceeds l l.cw l.ch ps.cb, plane_exceeds l l.cw l.ch ps.cr) refl

-- ---- a row of either width

pub bytes_fit : (at n b len : ℕ) → b ≡ 1 → at + n * b ≤ len → at + n ≤ len
bytes_fit at n b len e h = let k : at + n * 1 ≤ len = rw e at h in omega arith

pub words_fit : (at n b len : ℕ) → b ≡ 2 → at + n * b ≤ len → at + n * 2 ≤ len
words_fit at n b len e h = rw e at h

pub row_bytes_is : (plane : List ℕ) (at n m b : ℕ) → b ≡ 1 → ltb m (greatest n (λ (i : ℕ). get_or plane (at + i) 0)) ≡ any_of n (λ (x : ℕ). ltb m (sample_of b plane (at + x * b)))
unfolding sample_of
row_bytes_is plane at n m b e = greatest_above n m (λ (i : ℕ). get_or plane (at + i) 0) ∙ any_same n (λ (i : ℕ). ltb m (get_or plane (at + i) 0)) (λ (x : ℕ). ltb m (sample_of b plane (at + x * b))) (λ x _. ap (λ (v : ℕ). ltb m v) (one x))
  where
    one : (x : ℕ) → get_or plane (at + x) 0 ≡ sample_of b plane (at + x * b)
    one x = let k : x * 1 ≡ x = omega arith in rw (e, k) refl

pub row_words : (plane : List ℕ) (at n m b : ℕ) → b ≡ 2 → ltb m (greatest n (λ (i : ℕ). sample_of 2 plane (at + i * 2))) ≡ any_of n (λ (x : ℕ). ltb m (sample_of b plane (at + x * b)))
row_words plane at n m b e = rw e (greatest_above n m (λ (i : ℕ). sample_of 2 plane (at + i * 2)))

-- ---- row by row

module _ (l : Layout) (w h : ℕ) (p : Plane) where
  -- whether row y has a sample above
  abbrev pub row_above : ℕ → Bool
  row_above y = any_of w (λ (x : ℕ). ltb l.maxval (sample_of l.sample_bytes p.bytes (y * p.stride + x * l.sample_bytes)))

  pub rows_found : (y : ℕ) → y < h → row_above y ≡ true → true ≡ above l w h p
  unfolding above sample_at
  rows_found y k e = sym (any_some h row_above y k e)

  pub rows_none : (y : ℕ) → y ≡ h → any_of y row_above ≡ false → false ≡ above l w h p
  unfolding above sample_at
  rows_none y k e = sym e ∙ ap (λ (n : ℕ). any_of n row_above) k

  pub rows_more : (y : ℕ) → any_of y row_above ≡ false → row_above y ≡ false → any_of (y + 1) row_above ≡ false
  rows_more y e f = any_more y row_above ∙ rw (e, f) refl

-- ---- two runs of bytes, compared as slices

-- the first is asked first
any_first : (n : ℕ) (p : ℕ → Bool) → any_of (suc n) p ≡ (p 0 || any_of n (λ i. p (suc i)))
unfolding any_of
any_first zero p = go (p 0)
  where
    go : (a : Bool) → (false || a) ≡ (a || false)
    go true = refl
    go false = refl
any_first (suc n) p = ap (λ a. a || p (suc n)) (any_first n p) ∙ joined (p 0) (any_of n (λ i. p (suc i))) (p (suc n))
  where
    joined : (a b c : Bool) → ((a || b) || c) ≡ (a || (b || c))
    joined true b c = refl
    joined false b c = refl

lists_differ : (xs ys : List ℕ) → length xs ≡ length ys → not (pointwise eqb xs ys) ≡ any_of (length xs) (λ k. not (eqb (get_or xs k 0) (get_or ys k 0)))
unfolding any_of
lists_differ [] [] e = refl
lists_differ [] (y ∷ ys) e = let h : 0 ≡ length (y ∷ ys) = e in absurd (omega arith)
lists_differ (x ∷ xs) [] e = let h : length (x ∷ xs) ≡ 0 = e in absurd (omega arith)
lists_differ (x ∷ xs) (y ∷ ys) e =
    go (eqb x y) (lists_differ xs ys (let h : length (x ∷ xs) ≡ length (y ∷ ys) = e in omega arith))
    ∙ sym (any_first (length xs) (λ k. not (eqb (get_or (x ∷ xs) k 0) (get_or (y ∷ ys) k 0))))
  where
    rest : Bool
    rest = any_of (length xs) (λ k. not (eqb (get_or xs k 0) (get_or ys k 0)))

    go : (a : Bool) → not (pointwise eqb xs ys) ≡ rest → not (a && pointwise eqb xs ys) ≡ (not a || rest)
    go true k = k
    go false k = refl

pub slices_differ : (n at to : ℕ) (p q : List ℕ) → at + n ≤ length p → to + n ≤ length q → not (pointwise eqb (take (at + n - at) (drop at p)) (take (to + n - to) (drop to q))) ≡ any_of n (λ k. not (eqb (get_or p (at + k) 0) (get_or q (to + k) 0)))
slices_differ n at to p q g h =
    lists_differ xs ys (long at p g ∙ sym (long to q h))
    ∙ ap (λ m. any_of m (λ k. not (eqb (get_or xs k 0) (get_or ys k 0)))) (long at p g)
    ∙ any_same n _ _ (λ k l. rw (there at p k l, there to q k l) refl)
  where
    xs : List ℕ
    xs = take (at + n - at) (drop at p)

    ys : List ℕ
    ys = take (to + n - to) (drop to q)

    long : (a : ℕ) (l : List ℕ) → a + n ≤ length l → length (take (a + n - a) (drop a l)) ≡ n
    long a l f = let z = length-take (a + n - a) (drop a l) in let y = length-drop a l in omega arith

    there : (a : ℕ) (l : List ℕ) (k : ℕ) → k < n → get_or (take (a + n - a) (drop a l)) k 0 ≡ get_or l (a + k) 0
    there a l k f = get_or-take (a + n - a) (drop a l) k 0 (omega arith) ∙ get_or-drop a l k 0
