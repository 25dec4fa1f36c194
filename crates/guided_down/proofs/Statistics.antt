-- Slopes over scratch: what is written leaves what they are made of.
-- `slope_same` and `inside_same` carry it: the rows that slopes are made of lie before the row of slopes (`Clear`), so that a slope made later is by what scratch
-- held at the beginning. `inside_is` says that a cell with neighbours on both sides may be made without looking at an edge.
use Rattle.std.proofs.Common.{◌≡◌, refl, sym, ap, ◌∙◌, List, ℕ, ◌+◌, ◌-◌, ◌*◌, ◌/◌, ◌≤◌, ◌<◌, min, le_trans, arith, length, get_or, set, Float, lit<}
use lib.Ieee.{nan}
use Rattle.laws.specs.Floats.{f32, ◌⊕◌, ◌⊗◌, ◌⊘◌}
use Rattle.laws.specs.Lists.{put}
use Rattle.laws.proofs.Lists.{Run, run_none, run_of, run_before, run_run, run_over, run_end, put_same, put_before}
use Rattle.image.specs.Scratch.{cell_at, scratch_need}
use Rattle.guided_window.specs.declared.buffers.Window.{Window}
use Rattle.guided_window.specs.declared.buffers.Buffer.TheVariants.{Slopes}
use Rattle.guided_down.specs.declared.slopes.Stats.{Stats}
use Rattle.guided_down.specs.declared.neighbours.Neighbours.{Neighbours}
use Rattle.guided_down.specs.Inner.Slopes.{slope_by, mean_at, mean_over, sum_round, mean_round, slope_round, slope_with, slope_at, sum_inside, mean_inside, slope_inside, slope_run, slopes_from, slopes_inside, Inside, AllInside, ClearOf, Clear, SameLuma, PairLent, pair_run, pairs_from, pairs_inside, stats_of, slope_row, slope_rows}
use Rattle.image.specs.declared.layout.Layout.{Layout}
use Rattle.image.specs.declared.chroma.Chroma.{Chroma}
use Rattle.image.specs.declared.chroma.Chroma.TheVariants.{Cb, Cr}
use Rattle.guided.specs.Guided.{three, mean, slope_of, epsilon}
use Rattle.guided.specs.Scratch.{result_at, first_of, Slope, num_down, read_stored, read_across}
use Rattle.guided_window.specs.Inner.Buffers.{window_of, RowAt}
use Rattle.guided.proofs.Places.{first_few, buffers_apart}
use Rattle.guided.proofs.Congruence.{three_cong}
use Rattle.guided_window.proofs.Puts.{put_more}
use Rattle.guided_down.proofs.Buffers.{window_inside, window_clear}
use Rattle.guided_down.proofs.Pairs.{Pair, pair_none, pair_before, pair_over, pair_end}

pub by_same : {y y' yy yy' c c' yc yc' : Float} (eps : Float) → y ≡ y' → yy ≡ yy' → c ≡ c' → yc ≡ yc' → slope_by y yy c yc eps ≡ slope_by y' yy' c' yc' eps
by_same eps p q r s = rw (p, q, r, s) refl

-- ---- fewer cells, of a list as long or longer

inside_less : {t : Window} {n len : ℕ} → Inside t n len → (k l : ℕ) → k ≤ n → len ≤ l → Inside t k l
inside_less o k l p q = record { up = omega arith; at = omega arith; down = omega arith }

pub all_less : {t : Stats} {n len : ℕ} → AllInside t n len → (k l : ℕ) → k ≤ n → len ≤ l → AllInside t k l
all_less o k l p q = record { y = inside_less o.y k l p q; yy = inside_less o.yy k l p q; c = inside_less o.c k l p q; yc = inside_less o.yc k l p q }

clear_of_less : {t : Window} {dst n : ℕ} → ClearOf t dst n → (k : ℕ) → k ≤ n → ClearOf t dst k
clear_of_less o k p = record { up = omega arith; at = omega arith; down = omega arith }

pub clear_less : {t : Stats} {dst n : ℕ} → Clear t dst n → (k : ℕ) → k ≤ n → Clear t dst k
clear_less o k p = record { y = clear_of_less o.y k p; yy = clear_of_less o.yy k p; c = clear_of_less o.c k p; yc = clear_of_less o.yc k p }

-- what lies before a place lies before any behind it
behind_of : {t : Window} {dst n : ℕ} → ClearOf t dst n → (at : ℕ) → dst ≤ at → ClearOf t at n
behind_of o at p = record { up = omega arith; at = omega arith; down = omega arith }

pub behind_clear : {t : Stats} {dst n : ℕ} → Clear t dst n → (at : ℕ) → dst ≤ at → Clear t at n
behind_clear o at p = record { y = behind_of o.y at p; yy = behind_of o.yy at p; c = behind_of o.c at p; yc = behind_of o.yc at p }

pub pair_less : {t u : Stats} {a b n len : ℕ} → PairLent t u a b n len → (k l : ℕ) → k ≤ n → len ≤ l → PairLent t u a b k l
pair_less o k l p q = record {
  alike = o.alike;
  first = all_less o.first k l p q;
  second = all_less o.second k l p q;
  first_clear = clear_less o.first_clear k p;
  second_clear = clear_less o.second_clear k p;
  apart = let h = o.apart in omega arith;
  fits = let h = o.fits in omega arith;
}

-- ---- what is written from dst on leaves every row before it

module _ (dst n : ℕ) (xs ys : List Float) (e : (k : ℕ) → k < dst → get_or ys k nan ≡ get_or xs k nan) where
  mean_same : (t : Window) → ClearOf t dst n → (i : ℕ) → i < n → mean_at ys t i ≡ mean_at xs t i
  unfolding mean_at
  mean_same t o i k = rw (e (t.up + i) (omega (arith, o.up)), e (t.at + i) (omega (arith, o.at)), e (t.down + i) (omega (arith, o.down))) refl

  over_same : (t : Window) → ClearOf t dst n → (i : ℕ) → i < n → mean_over ys t n i ≡ mean_over xs t n i
  unfolding mean_over
  over_same t o i k =
      rw (
        three_cong ◌⊕◌ n (cell_at ys t.up) (cell_at xs t.up) i k (λ q h. e (t.up + q) (omega (arith, o.up))),
        three_cong ◌⊕◌ n (cell_at ys t.at) (cell_at xs t.at) i k (λ q h. e (t.at + q) (omega (arith, o.at))),
        three_cong ◌⊕◌ n (cell_at ys t.down) (cell_at xs t.down) i k (λ q h. e (t.down + q) (omega (arith, o.down))),
      ) refl

  pub slope_same : (t : Stats) (eps : Float) → Clear t dst n → (i : ℕ) → i < n → slope_at ys t n eps i ≡ slope_at xs t n eps i
  unfolding slope_at slope_with
  slope_same t eps o i k = by_same eps (mean_same t.y o.y i k) (mean_same t.yy o.yy i k) (over_same t.c o.c i k) (mean_same t.yc o.yc i k)

-- ---- a cell that has a neighbour on both sides

sum_is : (s : List Float) (src n i : ℕ) → i + 1 < n → sum_inside s src i ≡ three ◌⊕◌ n (cell_at s src) i
unfolding sum_inside three
sum_is s src n i h = let e : min (i + 1) (n - 1) ≡ i + 1 = omega arith in rw e refl

pub inside_is : (s : List Float) (t : Stats) (eps : Float) (n i : ℕ) → i + 1 < n → slope_inside s t eps i ≡ slope_at s t n eps i
unfolding slope_inside slope_at slope_with mean_inside mean_over
inside_is s t eps n i h = rw (sum_is s t.c.up n i h, sum_is s t.c.at n i h, sum_is s t.c.down n i h) refl

-- both by their neighbours
pub at_round : (s : List Float) (t : Stats) (n : ℕ) (eps : Float) (i : ℕ) (c : Neighbours) → c.left ≡ i - 1 → c.at ≡ i → c.right ≡ min (i + 1) (n - 1) → slope_round s t eps c ≡ slope_at s t n eps i
unfolding slope_at slope_round mean_round sum_round mean_over three
at_round s t n eps i c p q r = rw (p, q, r) refl

pub inside_round : (s : List Float) (t : Stats) (eps : Float) (i : ℕ) (c : Neighbours) → c.left ≡ i - 1 → c.at ≡ i → c.right ≡ i + 1 → slope_round s t eps c ≡ slope_inside s t eps i
unfolding slope_inside slope_round mean_round sum_round mean_inside sum_inside
inside_round s t eps i c p q r = rw (p, q, r) refl

pub inside_same : (dst n : ℕ) (xs ys : List Float) → ((k : ℕ) → k < dst → get_or ys k nan ≡ get_or xs k nan) → (t : Stats) (eps : Float) → Clear t dst n → (i : ℕ) → i + 1 < n → slope_inside ys t eps i ≡ slope_inside xs t eps i
inside_same dst n xs ys e t eps o i h = inside_is ys t eps n i h ∙ slope_same dst n xs ys e t eps o i (omega arith) ∙ sym (inside_is xs t eps n i h)

-- ---- a row that grows

-- by m cells, the first of which may have been made before
module _ (t : Stats) (eps : Float) (n dst : ℕ) (o : Clear t dst n) {xs ys : List Float} {done : ℕ} (w : Run xs ys dst done (slope_at xs t n eps)) (l : dst + n ≤ length xs) (d : done ≤ n) where
  pub grow_cells : (zs : List Float) (i m : ℕ) → zs ≡ slopes_from t eps n dst i m ys → i ≤ done → done ≤ i + m → i + m ≤ n → Run xs zs dst (i + m) (slope_at xs t n eps)
  unfolding slopes_from
  grow_cells zs i m e a b c =
      run_over w zs i m nan (e ∙ put_same ys (dst + i) m _ (λ k. slope_at xs t n eps (i + k)) (λ k h. slope_same dst n xs ys (λ q g. run_before w q nan g) t eps o (i + k) (omega arith))) a b (omega arith)

  pub grow_inside : (zs : List Float) (i m : ℕ) → zs ≡ slopes_inside t eps dst i m ys → i ≤ done → done ≤ i + m → i + m < n → Run xs zs dst (i + m) (slope_at xs t n eps)
  unfolding slopes_inside
  grow_inside zs i m e a b c =
      run_over w zs i m nan
      (e ∙ put_same ys (dst + i) m _ (λ k. slope_at xs t n eps (i + k)) (λ k h. inside_is ys t eps n (i + k) (omega arith) ∙ slope_same dst n xs ys (λ q g. run_before w q nan g) t eps o (i + k) (omega arith)))
      a b (omega arith)

-- two rows that grow side by side
module _ (t u : Stats) (eps : Float) (n a b : ℕ) {xs ys : List Float} (o : PairLent t u a b n (length xs)) {done : ℕ} (w : Pair xs ys a b done (slope_at xs t n eps) (slope_at xs u n eps)) (d : done ≤ n) where
  before : (k : ℕ) → k < a → get_or ys k nan ≡ get_or xs k nan
  before k h = pair_before w (let q = o.apart in omega arith) k nan h

  two_same : (i m : ℕ) (f g f' g' : ℕ → Float) → ((k : ℕ) → k < m → f k ≡ f' k) → ((k : ℕ) → k < m → g k ≡ g' k) → put (put ys (a + i) m f) (b + i) m g ≡ put (put ys (a + i) m f') (b + i) m g'
  two_same i m f g f' g' p q = ap (λ (s : List Float). put s (b + i) m g) (put_same ys (a + i) m f f' p) ∙ put_same (put ys (a + i) m f') (b + i) m g g' q

  pub pair_cells_grow : (zs : List Float) (i m : ℕ) → zs ≡ pairs_from t u eps n a b i m ys → i ≤ done → done ≤ i + m → i + m ≤ n → Pair xs zs a b (i + m) (slope_at xs t n eps) (slope_at xs u n eps)
  unfolding pairs_from
  pair_cells_grow zs i m e p q c =
      let apart = o.apart in
      let fits = o.fits in
      pair_over w zs i m nan
      (e ∙ two_same i m _ _ (λ k. slope_at xs t n eps (i + k)) (λ k. slope_at xs u n eps (i + k)) (λ k h. slope_same a n xs ys before t eps o.first_clear (i + k) (omega arith)) (λ k h. slope_same a n xs ys before u eps o.second_clear (i + k) (omega arith)))
      p q (omega arith) (omega arith)

  pub pair_inside_grow : (zs : List Float) (i m : ℕ) → zs ≡ pairs_inside t u eps a b i m ys → i ≤ done → done ≤ i + m → i + m < n → Pair xs zs a b (i + m) (slope_at xs t n eps) (slope_at xs u n eps)
  unfolding pairs_inside
  pair_inside_grow zs i m e p q c =
      let apart = o.apart in
      let fits = o.fits in
      pair_over w zs i m nan
      (e ∙ two_same i m _ _ (λ k. slope_at xs t n eps (i + k)) (λ k. slope_at xs u n eps (i + k))
      (λ k h. inside_is ys t eps n (i + k) (omega arith) ∙ slope_same a n xs ys before t eps o.first_clear (i + k) (omega arith))
      (λ k h. inside_is ys u eps n (i + k) (omega arith) ∙ slope_same a n xs ys before u eps o.second_clear (i + k) (omega arith)))
      p q (omega arith) (omega arith)

assoc : (a b c : ℕ) → a + b + c ≡ a + (b + c)
assoc a b c = omega arith

-- one cell's
pub cell_is : (s : List Float) (t : Stats) (eps : Float) (n dst i : ℕ) (v : Float) → v ≡ slope_at s t n eps i → set s (dst + i) v ≡ slopes_from t eps n dst i 1 s
unfolding slopes_from put
cell_is s t eps n dst i v h =
    let e : dst + i + 0 ≡ dst + i = omega arith in
    let f : i + 0 ≡ i = omega arith in
    rw (e, f, h) refl

-- a slope more
pub slopes_more : (t : Stats) (eps : Float) (n dst i : ℕ) → Clear t dst n → (xs ys : List Float) → ys ≡ put xs dst i (slope_at xs t n eps) → i < n → (v : Float) → v ≡ slope_at ys t n eps i → set ys (dst + i) v ≡ put xs dst (i + 1) (slope_at xs t n eps)
slopes_more t eps n dst i o xs ys w h v e =
    put_more xs ys dst i (slope_at xs t n eps) v w (e ∙ slope_same dst n xs ys (λ k g. run_before (run_of xs ys dst i _ w) k nan g) t eps o i h)

-- a block of eight behind those before
pub eights_more : (t : Stats) (eps : Float) (dst from b m : ℕ) → Clear t dst m → (xs ys : List Float) → ys ≡ put xs (dst + from) (8 * b) (λ k. slope_inside xs t eps (from + k)) → (zs v : List Float)
    → ((k : ℕ) → k < 8 → get_or v k nan ≡ slope_inside ys t eps (from + 8 * b + k)) → zs ≡ put ys (dst + (from + 8 * b)) 8 (λ k. get_or v k nan) → from + 8 * b + 9 ≤ m
    → zs ≡ put xs (dst + from) (8 * (b + 1)) (λ k. slope_inside xs t eps (from + k))
eights_more t eps dst from b m o xs ys d zs v e z h =
    let w = run_of xs ys (dst + from) (8 * b) (λ k. slope_inside xs t eps (from + k)) d in
    (run_run w zs (dst + (from + 8 * b)) (8 * (b + 1)) 8
    (z ∙ put_same ys (dst + (from + 8 * b)) 8 _ (λ k. slope_inside xs t eps (from + (8 * b + k)))
    (λ k q. e k q ∙ inside_same dst m xs ys (λ j g. run_before w j nan (omega arith)) t eps o (from + 8 * b + k) (omega arith) ∙ ap (slope_inside xs t eps) (assoc from (8 * b) k)))
    (omega arith) (omega arith)).eq

-- the same of two components
pub pair_eights_more : (t u : Stats) (eps : Float) (a b from n m : ℕ) {xs ys : List Float} → PairLent t u a b m (length xs) → Pair xs ys (a + from) (b + from) (8 * n) (λ k. slope_inside xs t eps (from + k)) (λ k. slope_inside xs u eps (from + k)) → (zs v x : List Float)
    → ((k : ℕ) → k < 8 → (get_or v k nan ≡ slope_inside ys t eps (from + 8 * n + k)) × (get_or x k nan ≡ slope_inside ys u eps (from + 8 * n + k)))
    → zs ≡ put (put ys (a + (from + 8 * n)) 8 (λ k. get_or v k nan)) (b + (from + 8 * n)) 8 (λ k. get_or x k nan) → from + 8 * n + 9 ≤ m
    → Pair xs zs (a + from) (b + from) (8 * (n + 1)) (λ k. slope_inside xs t eps (from + k)) (λ k. slope_inside xs u eps (from + k))
pair_eights_more t u eps a b from n m {xs} {ys} o w zs v x e z h =
    let apart = o.apart in
    let fits = o.fits in
    let first : ℕ → Float = λ k. slope_inside xs t eps (from + (8 * n + k)) in
    let second : ℕ → Float = λ k. slope_inside xs u eps (from + (8 * n + k)) in
    let place : a + (from + 8 * n) ≡ a + from + 8 * n = omega arith in
    let other : b + (from + 8 * n) ≡ b + from + 8 * n = omega arith in
    let next : 8 * n + 8 ≡ 8 * (n + 1) = omega arith in
    let left : (j : ℕ) → j < a → get_or ys j nan ≡ get_or xs j nan = λ j g. pair_before w (omega arith) j nan (omega arith) in
    let same : zs ≡ put (put ys (a + from + 8 * n) 8 first) (b + from + 8 * n) 8 second
    = z ∙ ap (λ (s : List Float). put s (b + (from + 8 * n)) 8 (λ k. get_or x k nan)) (put_same ys (a + (from + 8 * n)) 8 _ first (λ k q. (e k q).0 ∙ inside_same a m xs ys left t eps o.first_clear (from + 8 * n + k) (omega arith) ∙ ap (slope_inside xs t eps) (assoc from (8 * n) k)))
    ∙ put_same (put ys (a + (from + 8 * n)) 8 first) (b + (from + 8 * n)) 8 _ second (λ k q. (e k q).1 ∙ inside_same a m xs ys left u eps o.second_clear (from + 8 * n + k) (omega arith) ∙ ap (slope_inside xs u eps) (assoc from (8 * n) k))
    ∙ rw (place, other) refl in
    rw (sym next) (pair_over w zs (8 * n) 8 nan same (omega arith) (omega arith) (omega arith) (omega arith))

-- the first cell, blocks, one more block that ends with the last cell but one, and the last cell
pub cells_are : (t : Stats) (eps : Float) (n dst : ℕ) (s p q r z : List Float) → Clear t dst n → dst + n ≤ length s → 10 ≤ n
    → p ≡ slopes_from t eps n dst 0 1 s → q ≡ slopes_inside t eps dst 1 (8 * ((n - 2) / 8)) p → r ≡ slopes_inside t eps dst (n - 9) (8 * 1) q → z ≡ slopes_from t eps n dst (n - 1) 1 r → z ≡ slope_run t eps dst n s
unfolding slope_run
cells_are t eps n dst s p q r z o l h e f g k =
    let a = grow_cells t eps n dst o (run_none s dst (slope_at s t n eps)) l (omega arith) p 0 1 e (omega arith) (omega arith) (omega arith) in
    let b = grow_inside t eps n dst o a l (omega arith) q 1 (8 * ((n - 2) / 8)) f (omega arith) (omega arith) (omega arith) in
    let c = grow_inside t eps n dst o b l (omega arith) r (n - 9) (8 * 1) g (omega arith) (omega arith) (omega arith) in
    let d = grow_cells t eps n dst o c l (omega arith) z (n - 1) 1 k (omega arith) (omega arith) (omega arith) in
    run_end d n (omega arith) (omega arith)

pub pairs_are : (t u : Stats) (eps : Float) (n a b : ℕ) (s p q r z : List Float) → PairLent t u a b n (length s) → 10 ≤ n
    → p ≡ pairs_from t u eps n a b 0 1 s → q ≡ pairs_inside t u eps a b 1 (8 * ((n - 2) / 8)) p → r ≡ pairs_inside t u eps a b (n - 9) (8 * 1) q → z ≡ pairs_from t u eps n a b (n - 1) 1 r → z ≡ pair_run t u eps a b n s
unfolding pair_run
pairs_are t u eps n a b s p q r z o h e f g k =
    let v = pair_cells_grow t u eps n a b o (pair_none s a b (slope_at s t n eps) (slope_at s u n eps)) (omega arith) p 0 1 e (omega arith) (omega arith) (omega arith) in
    let w = pair_inside_grow t u eps n a b o v (omega arith) q 1 (8 * ((n - 2) / 8)) f (omega arith) (omega arith) (omega arith) in
    let x = pair_inside_grow t u eps n a b o w (omega arith) r (n - 9) (8 * 1) g (omega arith) (omega arith) (omega arith) in
    let y = pair_cells_grow t u eps n a b o x (omega arith) z (n - 1) 1 k (omega arith) (omega arith) (omega arith) in
    pair_end y n (omega arith) (omega arith)

-- one row after the other
pub pair_run_is : (t u : Stats) (eps : Float) (n a b : ℕ) (s p z : List Float) → PairLent t u a b n (length s) → p ≡ slope_run t eps a n s → z ≡ slope_run u eps b n p → z ≡ pair_run t u eps a b n s
unfolding pair_run slope_run
pair_run_is t u eps n a b s p z o e f =
    f ∙ put_same p b n _ (slope_at s u n eps) (λ i h. slope_same a n s p (λ k g. ap (λ (x : List Float). get_or x k nan) e ∙ put_before s a n _ k nan g) u eps o.second_clear i h)
    ∙ ap (λ (x : List Float). put x b n (slope_at s u n eps)) e

-- and one cell after the other
pub pair_cell_is : (t u : Stats) (eps : Float) (n a b i : ℕ) (s p z : List Float) → PairLent t u a b n (length s) → i < n → p ≡ slopes_from t eps n a i 1 s → z ≡ slopes_from u eps n b i 1 p → z ≡ pairs_from t u eps n a b i 1 s
unfolding pairs_from slopes_from
pair_cell_is t u eps n a b i s p z o h e f =
    f ∙ put_same p (b + i) 1 _ (λ k. slope_at s u n eps (i + k)) (λ j q. slope_same a n s p (λ k g. ap (λ (x : List Float). get_or x k nan) e ∙ put_before s (a + i) 1 _ k nan (omega arith)) u eps o.second_clear (i + j) (omega arith))
    ∙ ap (λ (x : List Float). put x (b + i) 1 (λ k. slope_at s u n eps (i + k))) e

-- ---- a component's row

-- its sums end within scratch, and its slopes' buffer meets none of them
pub stats_inside : (l : Layout) (k : Chroma) (j : ℕ) → l.cw ≤ l.w → AllInside (stats_of l k j) l.cw (scratch_need l)
unfolding stats_of window_of
stats_inside l k j b =
    let h = first_few k in
    record { y = window_inside l 1 j (lit< tt) b; yy = window_inside l 2 j (lit< tt) b; c = window_inside l (first_of k) j (omega arith) b; yc = window_inside l (first_of k + 1) j (omega arith) b }

pub stats_clear : (l : Layout) (k : Chroma) (j : ℕ) → Clear (stats_of l k j) (result_at l (num_down (Slope k)) j) l.cw
unfolding stats_of window_of
stats_clear l k j =
    let h = first_few k in
    record {
      y = window_clear l 1 (num_down (Slope k)) j (lit< tt);
      yy = window_clear l 2 (num_down (Slope k)) j (lit< tt);
      c = window_clear l (first_of k) (num_down (Slope k)) j (omega arith);
      yc = window_clear l (first_of k + 1) (num_down (Slope k)) j (omega arith);
    }

-- eps by a constant that is 16
pub epsilon_is : (l : Layout) (e : Float) → e ≡ f32 16 → e ⊗ (f32 l.maxval ⊘ f32 255) ⊗ (f32 l.maxval ⊘ f32 255) ≡ epsilon l
unfolding epsilon
epsilon_is l e h = rw h refl

-- the slope by its windows is the definition's
pub slope_is : (l : Layout) (k : Chroma) (j : ℕ) (s : List Float) (i : ℕ) → slope_at s (stats_of l k j) l.cw (epsilon l) i ≡ slope_of l (read_across l s) k j i
unfolding slope_at slope_with slope_by mean_at mean_over stats_of window_of slope_of mean three read_across read_stored
slope_is l k j s i = refl

pub row_is : (l : Layout) (k : Chroma) (j : ℕ) (s : List Float) → slope_run (stats_of l k j) (epsilon l) (result_at l (num_down (Slope k)) j) l.cw s ≡ slope_row l k j s
unfolding slope_run slope_row
row_is l k j s = put_same s (result_at l (num_down (Slope k)) j) l.cw _ _ (λ i h. slope_is l k j s i)

-- ---- what a row of slopes asks, and gives, by what it was handed

module _ (l : Layout) (k : Chroma) (j dst : ℕ) (t : Stats) (p : t ≡ stats_of l k j) (q : RowAt l (Slopes k) j dst) where
  pub row_ready : (len : ℕ) → scratch_need l ≤ len → l.cw ≤ l.w → AllInside t l.cw len × Clear t dst l.cw × (dst + l.cw ≤ len)
  row_ready len h c = (rw p (all_less (stats_inside l k j c) l.cw len (omega arith) h), rw (p, q.is) (stats_clear l k j), le_trans q.fits h)

  pub row_slopes : (eps : Float) (s : List Float) → eps ≡ epsilon l → slope_run t eps dst l.cw s ≡ slope_row l k j s
  row_slopes eps s g = let e = q.is in rw (p, g, e) (row_is l k j s)

-- Cb's slopes lie before Cr's, and all that they are made of before both
module _ (l : Layout) (j a b : ℕ) (t u : Stats) (p : t ≡ stats_of l Cb j) (q : u ≡ stats_of l Cr j) (e : RowAt l (Slopes Cb) j a) (f : RowAt l (Slopes Cr) j b) where
  alike : SameLuma t u
  unfolding stats_of
  alike = rw (p, q) (record { y = refl; yy = refl })

  clear_cr : Clear (stats_of l Cr j) (result_at l (num_down (Slope Cb)) j) l.cw
  unfolding stats_of window_of
  clear_cr = record {
    y = window_clear l 1 (num_down (Slope Cb)) j (lit< tt);
    yy = window_clear l 2 (num_down (Slope Cb)) j (lit< tt);
    c = window_clear l 5 (num_down (Slope Cb)) j (lit< tt);
    yc = window_clear l 6 (num_down (Slope Cb)) j (lit< tt);
  }

  order : result_at l (num_down (Slope Cb)) j + l.cw ≤ result_at l (num_down (Slope Cr)) j
  unfolding result_at
  order = buffers_apart l _ _ (omega arith)

  pub pair_ready : (len : ℕ) → scratch_need l ≤ len → l.cw ≤ l.w → PairLent t u a b l.cw len
  pair_ready len h c =
      let first = row_ready l Cb j a t p e len h c in
      let second = row_ready l Cr j b u q f len h c in
      let x = e.is in
      let y = f.is in
      record {
        alike = alike;
        first = first.0;
        second = second.0;
        first_clear = first.1;
        second_clear = rw (q, x) clear_cr;
        apart = rw (x, y) order;
        fits = second.2;
      }

  rows_are : (s : List Float)
      → pair_run (stats_of l Cb j) (stats_of l Cr j) (epsilon l) (result_at l (num_down (Slope Cb)) j) (result_at l (num_down (Slope Cr)) j) l.cw s ≡ slope_row l Cr j (slope_row l Cb j s)
  unfolding pair_run slope_run
  rows_are s =
      let a' = result_at l (num_down (Slope Cb)) j in
      let b' = result_at l (num_down (Slope Cr)) j in
      let first : List Float = put s a' l.cw (slope_at s (stats_of l Cb j) l.cw (epsilon l)) in
      put_same first b' l.cw _ _ (λ i h. sym (slope_same a' l.cw s first (λ k g. put_before s a' l.cw _ k nan g) (stats_of l Cr j) (epsilon l) clear_cr i h))
      ∙ row_is l Cr j first ∙ ap (slope_row l Cr j) (row_is l Cb j s)

  pub pair_slopes : (eps : Float) (s : List Float) → eps ≡ epsilon l → pair_run t u eps a b l.cw s ≡ slope_rows l j s
  unfolding slope_rows
  pair_slopes eps s g =
      let x = e.is in
      let y = f.is in
      rw (p, q, g, x, y) (rows_are s)
