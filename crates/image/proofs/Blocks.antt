-- Laws of the comparison: bytes and samples, and that four rectangles are what lies outside one.
use Rattle.std.proofs.Common.{◌≡◌, refl, sym, ap, ◌∙◌, Bool, true, false, ◌||◌, ◌&&◌, not, cond, List, ◌⊎◌, inl, inr, ⊎_elim, ℕ, zero, suc, ◌+◌, ◌-◌, ◌*◌, ◌≤◌, ◌<◌, mul-le-mul_right, arith, leb, ltb, eqb, length, get_or, lt-ltb, le-ltb, ltb-true, ltb-false, eq-eqb, ne_eqb, eqb-true, le-leb, leb-true}
use borrow.Author.Tests.{eqb-false, lt-leb, not-true, not-false}
use Rattle.image.specs.declared.layout.Layout.{Layout}
use Rattle.image.specs.declared.rectangle.Rectangle.{Rectangle}
use Rattle.image.specs.Inner.Tests.{Sound}
use Rattle.image.specs.Samples.{Plane, sample_of, sample_at}
use Rattle.image.specs.Picture.{short_plane}
use Rattle.image.specs.Limits.{any_of}
use Rattle.image.specs.Rectangles.{is_empty, holds_cell, past_cells}
use Rattle.image.specs.Differences.{sample_differs, differs, differs_outside}
use Rattle.image.specs.Inner.Differences.{differs_in, Reaches, InCells, nothing, trimmed_of, rows_above, rows_below, left_part, right_part}
use Rattle.image.proofs.Layouts.{neither}
use Rattle.image.proofs.Holding.{short_holds, row_inside}
use Rattle.image.proofs.Any.{any_more, any_same, any_some, any_none, none_any}

-- ---- any of two parts

or_assoc : (a b c : Bool) → ((a || b) || c) ≡ (a || (b || c))
or_assoc true b c = refl
or_assoc false b c = refl

or_false : (a : Bool) → (a || false) ≡ a
or_false true = refl
or_false false = refl

-- the first a, then b more
pub any_split : (a b : ℕ) (p : ℕ → Bool) → any_of (a + b) p ≡ (any_of a p || any_of b (λ i. p (a + i)))
unfolding any_of
any_split a zero p = let e : a + 0 ≡ a = omega arith in rw e (sym (or_false (any_of a p)))
any_split a (suc b) p =
    let e : a + suc b ≡ suc (a + b) = omega arith in
    rw (e, any_split a b p) (or_assoc (any_of a p) (any_of b (λ i. p (a + i))) (p (a + b)))

-- one of two tests
pub any_either : (n : ℕ) (p q : ℕ → Bool) → any_of n (λ i. p i || q i) ≡ (any_of n p || any_of n q)
unfolding any_of
any_either zero p q = refl
any_either (suc n) p q = rw (any_either n p q) (go (any_of n p) (any_of n q) (p n) (q n))
  where
    go : (a b c d : Bool) → ((a || b) || (c || d)) ≡ ((a || c) || (b || d))
    go true b c d = refl
    go false true true d = refl
    go false true false d = refl
    go false false true d = refl
    go false false false d = refl

-- ---- bytes

-- two numbers of two bytes differ where their low or their high bytes do
word_differs : (a b c d : ℕ) → a < 256 → c < 256 → not (eqb (a + 256 * b) (c + 256 * d)) ≡ (not (eqb a c) || not (eqb b d))
word_differs a b c d A C = go (eqb a c) (eqb b d) (eqb-true a c) (eqb-false a c) (eqb-true b d) (eqb-false b d)
  where
    go : (s t : Bool) → (s ≡ true → a ≡ c) → (s ≡ false → a ≡ c → ⊥) → (t ≡ true → b ≡ d) → (t ≡ false → b ≡ d → ⊥) → not (eqb (a + 256 * b) (c + 256 * d)) ≡ (not s || not t)
    go true true f g h k = let x = f refl in let y = h refl in rw (eq-eqb (a + 256 * b) (c + 256 * d) (omega arith)) refl
    go true false f g h k = rw (ne_eqb (a + 256 * b) (c + 256 * d) (λ e. k refl (omega arith))) refl
    go false t f g h k = rw (ne_eqb (a + 256 * b) (c + 256 * d) (λ e. g refl (omega arith))) refl

-- byte k of the one and of the other differ
abbrev pub byte_differs : List ℕ → ℕ → List ℕ → ℕ → ℕ → Bool
byte_differs p at q to k = not (eqb (get_or p (at + k) 0) (get_or q (to + k) 0))

module _ (p q : List ℕ) (fp : (i : ℕ) → get_or p i 0 < 256) (fq : (i : ℕ) → get_or q i 0 < 256) (at to : ℕ) where
  words_differ : (n : ℕ) → any_of (n * 2) (byte_differs p at q to) ≡ any_of n (λ x. not (eqb (sample_of 2 p (at + x * 2)) (sample_of 2 q (to + x * 2))))
  unfolding any_of sample_of
  words_differ zero = refl
  words_differ (suc n) =
      let e : suc n * 2 ≡ suc (suc (n * 2)) = omega arith in
      let a : at + n * 2 + 1 ≡ at + suc (n * 2) = omega arith in
      let b : to + n * 2 + 1 ≡ to + suc (n * 2) = omega arith in
      rw (e, words_differ n, word_differs (get_or p (at + n * 2) 0) (get_or p (at + n * 2 + 1) 0) (get_or q (to + n * 2) 0) (get_or q (to + n * 2 + 1) 0) (fp (at + n * 2)) (fq (to + n * 2)), a, b)
      (or_assoc (any_of n (λ x. not (eqb (sample_of 2 p (at + x * 2)) (sample_of 2 q (to + x * 2))))) (byte_differs p at q to (n * 2)) (byte_differs p at q to (suc (n * 2))))

  bytes_differ : (n : ℕ) → any_of (n * 1) (byte_differs p at q to) ≡ any_of n (λ x. not (eqb (sample_of 1 p (at + x * 1)) (sample_of 1 q (to + x * 1))))
  unfolding sample_of
  bytes_differ n =
      let e : n * 1 ≡ n = omega arith in
      rw e (any_same n _ _ (λ x _. let k : x * 1 ≡ x = omega arith in rw k refl))

  -- n samples of either width differ where their bytes do
  pub samples_differ : (b n : ℕ) → 1 ≤ b → b ≤ 2 → any_of (n * b) (byte_differs p at q to) ≡ any_of n (λ x. not (eqb (sample_of b p (at + x * b)) (sample_of b q (to + x * b))))
  samples_differ b n h k = ⊎_elim (λ e. rw e (bytes_differ n)) (λ e. rw e (words_differ n)) (which b h k)
    where
      which : (b : ℕ) → 1 ≤ b → b ≤ 2 → (b ≡ 1) ⊎ (b ≡ 2)
      which zero h k = absurd (omega arith)
      which (suc zero) h k = inl refl
      which (suc (suc zero)) h k = inr refl
      which (suc (suc (suc b))) h k = absurd (omega arith)

-- ---- rectangles

-- what row j of a rectangle holds, by its bytes
pub row_is : (l : Layout) (r : Rectangle) (p q : Plane) → Sound l → ((i : ℕ) → get_or p.bytes i 0 < 256) → ((i : ℕ) → get_or q.bytes i 0 < 256) → (j : ℕ)
    → any_of (r.width * l.sample_bytes) (byte_differs p.bytes ((r.top + j) * p.stride + r.left * l.sample_bytes) q.bytes ((r.top + j) * q.stride + r.left * l.sample_bytes))
    ≡ any_of r.width (λ i. sample_differs l p q (r.left + i) (r.top + j))
unfolding sample_differs sample_at
row_is l r p q o fp fq j =
    let b = l.sample_bytes in
    let y = r.top + j in
    samples_differ p.bytes q.bytes fp fq (y * p.stride + r.left * b) (y * q.stride + r.left * b) b r.width o.bytes_some o.bytes_most
    ∙ any_same r.width _ _ (λ x _.
    let e : y * p.stride + r.left * b + x * b ≡ y * p.stride + (r.left + x) * b = omega arith in
    let f : y * q.stride + r.left * b + x * b ≡ y * q.stride + (r.left + x) * b = omega arith in
    rw (e, f) refl)

-- whether row j of a rectangle has a sample that differs
abbrev pub row_differs : Layout → Rectangle → Plane → Plane → ℕ → Bool
row_differs l r p q j = any_of r.width (λ (i : ℕ). sample_differs l p q (r.left + i) (r.top + j))

module _ (l : Layout) (r : Rectangle) (p q : Plane) where
  pub block_found : (j : ℕ) → j < r.height → row_differs l r p q j ≡ true → true ≡ differs_in l r p q
  unfolding differs_in
  block_found j k e = sym (any_some r.height (row_differs l r p q) j k e)

  pub block_none : (j : ℕ) → j ≡ r.height → any_of j (row_differs l r p q) ≡ false → false ≡ differs_in l r p q
  unfolding differs_in
  block_none j k e = sym e ∙ ap (λ (n : ℕ). any_of n (row_differs l r p q)) k

  pub block_more : (j : ℕ) → any_of j (row_differs l r p q) ≡ false → row_differs l r p q j ≡ false → any_of (j + 1) (row_differs l r p q) ≡ false
  block_more j e f = any_more j (row_differs l r p q) ∙ rw (e, f) refl

-- row j of it, part by part
pub row_room : (l : Layout) (r : Rectangle) (p : Plane) → Reaches l r p → (j : ℕ) → j < r.height → (r.top + j) * p.stride + (r.left * l.sample_bytes + r.width * l.sample_bytes) ≤ length p.bytes
row_room l r p o j h = omega (arith, o.rows (r.top + j) (omega arith))

-- a plane of w columns and h rows that passes 7 is reached by what lies within it
pub reaches : (l : Layout) (w h : ℕ) (p : Plane) (r : Rectangle) → short_plane l w h p ≡ false → h ≤ 8192 → r.left + r.width ≤ w → r.top + r.height ≤ h → Reaches l r p
reaches l w h p r e m a d = record {
  last = omega arith;
  rows = λ y k.
      let i = row_inside (short_holds l w h p e) y (omega arith) in
      let j : (r.left + r.width) * l.sample_bytes ≤ w * l.sample_bytes = mul-le-mul_right l.sample_bytes a in
      omega arith;
}

module _ (l : Layout) (r : Rectangle) (p : Plane) (o : Sound l) (e : short_plane l l.cw l.ch p ≡ false) (i : InCells l r) where
  rows_most : l.ch ≤ 8192
  rows_most = omega (arith, o.ch_most, o.h_most)

  pub above_reaches : Reaches l (rows_above l r) p
  above_reaches = reaches l l.cw l.ch p (rows_above l r) e rows_most (omega arith) (omega (arith, i.down))

  pub below_reaches : Reaches l (rows_below l r) p
  below_reaches = reaches l l.cw l.ch p (rows_below l r) e rows_most (omega arith) (omega (arith, i.down))

  pub left_reaches : Reaches l (left_part r) p
  left_reaches = reaches l l.cw l.ch p (left_part r) e rows_most (omega (arith, i.across)) i.down

  pub right_reaches : Reaches l (right_part l r) p
  right_reaches = reaches l l.cw l.ch p (right_part l r) e rows_most (omega (arith, i.across)) i.down

-- the whole plane
pub whole_reaches : (l : Layout) (p : Plane) → Sound l → short_plane l l.w l.h p ≡ false → Reaches l (record { left = 0; top = 0; width = l.w; height = l.h }) p
whole_reaches l p o e = reaches l l.w l.h p _ e o.h_most (omega arith) (omega arith)

pub whole_is : (l : Layout) (w h : ℕ) (p q : Plane) → differs_in l (record { left = 0; top = 0; width = w; height = h }) p q ≡ differs l w h p q
unfolding differs_in differs
whole_is l w h p q = any_same h _ _ (λ y _. any_same w _ _ (λ x _. let e : 0 + x ≡ x = omega arith in let f : 0 + y ≡ y = omega arith in rw (e, f) refl))

-- ---- outside one

-- a cell left of, right of, above or below a rectangle isn't its
and_false : (a : Bool) → (a && false) ≡ false
and_false true = refl
and_false false = refl

module _ (r : Rectangle) (i j : ℕ) where
  left_of : i < r.left → holds_cell r i j ≡ false
  unfolding holds_cell
  left_of h = rw (lt-leb r.left i h) refl

  right_of : r.left + r.width ≤ i → holds_cell r i j ≡ false
  unfolding holds_cell
  right_of h = rw (le-ltb i (r.left + r.width) h, and_false (leb r.left i)) refl

  above_it : j < r.top → holds_cell r i j ≡ false
  unfolding holds_cell
  above_it h = rw (lt-leb r.top j h) (and_false (leb r.left i && ltb i (r.left + r.width)))

  below_it : r.top + r.height ≤ j → holds_cell r i j ≡ false
  unfolding holds_cell
  below_it h = rw (le-ltb j (r.top + r.height) h, and_false (leb r.top j)) (and_false (leb r.left i && ltb i (r.left + r.width)))

  pub within_it : r.left ≤ i → i < r.left + r.width → r.top ≤ j → j < r.top + r.height → holds_cell r i j ≡ true
  unfolding holds_cell
  within_it a b c d = rw (le-leb r.left i a, lt-ltb i (r.left + r.width) b, le-leb r.top j c, lt-ltb j (r.top + r.height) d) refl

module _ (l : Layout) (r : Rectangle) (p q : Plane) (o : InCells l r) where
  -- a cell that differs and isn't its
  abbrev outer : ℕ → ℕ → Bool
  outer j i = not (holds_cell r i j) && sample_differs l p q i j

  abbrev d : ℕ → ℕ → Bool
  d j i = sample_differs l p q i j

  row_whole : (j : ℕ) → (j < r.top) ⊎ (r.top + r.height ≤ j) → any_of l.cw (outer j) ≡ any_of l.cw (d j)
  row_whole j h = any_same l.cw (outer j) (d j) (λ i _. ⊎_elim (λ k. rw (above_it r i j k) refl) (λ k. rw (below_it r i j k) refl) h)

  row_beside : (j : ℕ) → r.top ≤ j → j < r.top + r.height → any_of l.cw (outer j) ≡ (any_of r.left (d j) || any_of (l.cw - (r.left + r.width)) (λ i. d j (r.left + r.width + i)))
  row_beside j a b =
      let e : l.cw ≡ r.left + (r.width + (l.cw - (r.left + r.width))) = let k = o.across in omega arith in
      ap (λ (n : ℕ). any_of n (outer j)) e
      ∙ any_split r.left (r.width + (l.cw - (r.left + r.width))) (outer j)
      ∙ rw (any_same r.left (outer j) (d j) (λ i h. rw (left_of r i j h) refl))
      (ap (λ (t : Bool). any_of r.left (d j) || t)
      (any_split r.width (l.cw - (r.left + r.width)) (λ i. outer j (r.left + i))
      ∙ rw (none_any r.width (λ i. outer j (r.left + i)) (λ i h. rw (within_it r (r.left + i) j (omega arith) (omega arith) a b) refl))
      (any_same (l.cw - (r.left + r.width)) _ _ (λ i _. let f : r.left + (r.width + i) ≡ r.left + r.width + i = omega arith in rw (f, right_of r (r.left + r.width + i) j (omega arith)) refl))))

  abbrev row_outer : ℕ → Bool
  row_outer j = any_of l.cw (outer j)

  above_is : any_of r.top row_outer ≡ differs_in l (rows_above l r) p q
  unfolding differs_in
  above_is = any_same r.top _ _ (λ j h. row_whole j (inl h) ∙ any_same l.cw _ _ (λ i _. let e : 0 + i ≡ i = omega arith in let f : 0 + j ≡ j = omega arith in rw (e, f) refl))

  below_is : any_of (l.ch - (r.top + r.height)) (λ j. row_outer (r.top + (r.height + j))) ≡ differs_in l (rows_below l r) p q
  unfolding differs_in
  below_is = any_same (l.ch - (r.top + r.height)) _ _ (λ j h.
      let g : r.top + (r.height + j) ≡ r.top + r.height + j = omega arith in
      rw g (row_whole (r.top + r.height + j) (inr (omega arith)) ∙ any_same l.cw _ _ (λ i _. let e : 0 + i ≡ i = omega arith in rw e refl)))

  beside_is : any_of r.height (λ j. row_outer (r.top + j)) ≡ (differs_in l (left_part r) p q || differs_in l (right_part l r) p q)
  unfolding differs_in
  beside_is =
      any_same r.height _ _ (λ j h. row_beside (r.top + j) (omega arith) (omega arith))
      ∙ any_either r.height (λ j. any_of r.left (d (r.top + j))) (λ j. any_of (l.cw - (r.left + r.width)) (λ i. d (r.top + j) (r.left + r.width + i)))
      ∙ ap (λ (t : Bool). t || any_of r.height (λ j. any_of (l.cw - (r.left + r.width)) (λ i. d (r.top + j) (r.left + r.width + i))))
      (any_same r.height _ _ (λ j h. any_same r.left _ _ (λ i _. let e : 0 + i ≡ i = omega arith in rw e refl)))

  -- the plane outside the rectangle is four rectangles
  pub outside_is : ((differs_in l (rows_above l r) p q || differs_in l (rows_below l r) p q) || (differs_in l (left_part r) p q || differs_in l (right_part l r) p q)) ≡ differs_outside l r p q
  unfolding differs_outside
  outside_is =
      let e : r.top + (r.height + (l.ch - (r.top + r.height))) ≡ l.ch = let k = o.down in omega arith in
      sym (ap (λ (n : ℕ). any_of n row_outer) (sym e)
      ∙ any_split r.top (r.height + (l.ch - (r.top + r.height))) row_outer
      ∙ ap (λ (t : Bool). any_of r.top row_outer || t) (any_split r.height (l.ch - (r.top + r.height)) (λ j. row_outer (r.top + j)))
      ∙ rw (above_is, below_is, beside_is) (go (differs_in l (rows_above l r) p q) (differs_in l (rows_below l r) p q) (differs_in l (left_part r) p q || differs_in l (right_part l r) p q)))
    where
      go : (a b c : Bool) → (a || (c || b)) ≡ ((a || b) || c)
      go true b c = refl
      go false true true = refl
      go false true false = refl
      go false false true = refl
      go false false false = refl

-- ---- a rectangle that passes 19

-- an empty one is the one at 0, and any other lies within the plane
pub trimmed_in : (l : Layout) (r : Rectangle) → past_cells l r ≡ false → InCells l (trimmed_of r)
unfolding past_cells trimmed_of
trimmed_in l r e = go (is_empty r) e
  where
    go : (t : Bool) → (not t && (ltb l.cw (r.left + r.width) || ltb l.ch (r.top + r.height))) ≡ false → InCells l (cond t nothing r)
    go true e = record { across = omega arith; down = omega arith }
    go false e =
        let n = neither (ltb l.cw (r.left + r.width)) (ltb l.ch (r.top + r.height)) e in
        record { across = ltb-false l.cw (r.left + r.width) n.0; down = ltb-false l.ch (r.top + r.height) n.1 }

-- and holds the same cells
pub trimmed_holds : (r : Rectangle) (i j : ℕ) → holds_cell (trimmed_of r) i j ≡ holds_cell r i j
unfolding trimmed_of is_empty
trimmed_holds r i j = go (eqb r.width 0) (eqb r.height 0) (eqb-true r.width 0) (eqb-true r.height 0)
  where
    none : holds_cell nothing i j ≡ false
    none = right_of nothing i j (omega arith)

    which : (i k : ℕ) → (i < k) ⊎ (k ≤ i)
    which i k = cut (ltb i k) (ltb-true i k) (ltb-false i k)
      where
        cut : (t : Bool) → (t ≡ true → i < k) → (t ≡ false → k ≤ i) → (i < k) ⊎ (k ≤ i)
        cut true y z = inl (y refl)
        cut false y z = inr (z refl)

    go : (s t : Bool) → (s ≡ true → r.width ≡ 0) → (t ≡ true → r.height ≡ 0) → holds_cell (cond (s || t) nothing r) i j ≡ holds_cell r i j
    go true t f g = let k = f refl in none ∙ sym (⊎_elim (λ h. left_of r i j h) (λ h. right_of r i j (omega arith)) (which i r.left))
    go false true f g = let k = g refl in none ∙ sym (⊎_elim (λ h. above_it r i j h) (λ h. below_it r i j (omega arith)) (which j r.top))
    go false false f g = refl

pub trimmed_outside : (l : Layout) (r : Rectangle) (p q : Plane) → differs_outside l (trimmed_of r) p q ≡ differs_outside l r p q
unfolding differs_outside
trimmed_outside l r p q = any_same l.ch _ _ (λ j _. any_same l.cw _ _ (λ i _. ap (λ (t : Bool). not t && sample_differs l p q i j) (trimmed_holds r i j)))

-- what 21 leaves: cells outside the rectangle are alike, and luma is
pub outside_alike : (l : Layout) (r : Rectangle) (p q : Plane) → differs_outside l r p q ≡ false → (i j : ℕ) → i < l.cw → j < l.ch → holds_cell r i j ≡ false → sample_at l.sample_bytes p j i ≡ sample_at l.sample_bytes q j i
unfolding differs_outside sample_differs
outside_alike l r p q e i j I J h =
    let f = any_none l.cw (outer' j) (any_none l.ch (λ j. any_of l.cw (outer' j)) e j J) i I in
    eqb-true (sample_at l.sample_bytes p j i) (sample_at l.sample_bytes q j i) (not-false _ (rw h at f))
  where
    outer' : ℕ → ℕ → Bool
    outer' j i = not (holds_cell r i j) && not (eqb (sample_at l.sample_bytes p j i) (sample_at l.sample_bytes q j i))

pub whole_alike : (l : Layout) (w h : ℕ) (p q : Plane) → differs l w h p q ≡ false → (x y : ℕ) → x < w → y < h → sample_at l.sample_bytes p y x ≡ sample_at l.sample_bytes q y x
unfolding differs sample_differs
whole_alike l w h p q e x y X Y =
    let d : ℕ → ℕ → Bool = λ y x. not (eqb (sample_at l.sample_bytes p y x) (sample_at l.sample_bytes q y x)) in
    eqb-true (sample_at l.sample_bytes p y x) (sample_at l.sample_bytes q y x) (not-false _ (any_none w (d y) (any_none h (λ y. any_of w (d y)) e y Y) x X))

-- ---- 19 in its words

both_true : (a b : Bool) → (a && b) ≡ true → (a ≡ true) × (b ≡ true)
both_true true b e = (refl, e)
both_true false b e = let z : ◌≡◌ {A = ℕ} 0 1 = cc in absurd (omega arith)

-- what a cell is that the rectangle holds
pub held : (r : Rectangle) (i j : ℕ) → holds_cell r i j ≡ true → ((r.left ≤ i) × (i < r.left + r.width)) × ((r.top ≤ j) × (j < r.top + r.height))
unfolding holds_cell
held r i j e =
    let p = both_true (leb r.left i && ltb i (r.left + r.width)) (leb r.top j && ltb j (r.top + r.height)) e in
    let a = both_true (leb r.left i) (ltb i (r.left + r.width)) p.0 in
    let d = both_true (leb r.top j) (ltb j (r.top + r.height)) p.1 in
    ((leb-true r.left i a.0, ltb-true i (r.left + r.width) a.1), (leb-true r.top j d.0, ltb-true j (r.top + r.height) d.1))

-- a rectangle that passes has no cell outside the plane
pub cells_inside : (l : Layout) (r : Rectangle) → past_cells l r ≡ false → (i j : ℕ) → holds_cell r i j ≡ true → (i < l.cw) × (j < l.ch)
cells_inside l r e i j h =
    let o = trimmed_in l r e in
    let q = held (trimmed_of r) i j (trimmed_holds r i j ∙ h) in
    (omega arith, omega arith)

-- and one that doesn't has: its last
pub cell_past : (l : Layout) (r : Rectangle) → past_cells l r ≡ true → (let i = r.left + (r.width - 1) in let j = r.top + (r.height - 1) in (holds_cell r i j ≡ true) × ((l.cw ≤ i) ⊎ (l.ch ≤ j)))
unfolding past_cells is_empty
cell_past l r e =
    let p = both_true (not (eqb r.width 0 || eqb r.height 0)) (ltb l.cw (r.left + r.width) || ltb l.ch (r.top + r.height)) e in
    let n = neither (eqb r.width 0) (eqb r.height 0) (not-true (eqb r.width 0 || eqb r.height 0) p.0) in
    let w = eqb-false r.width 0 n.0 in
    let h = eqb-false r.height 0 n.1 in
    (within_it r (r.left + (r.width - 1)) (r.top + (r.height - 1)) (omega arith) (omega arith) (omega arith) (omega arith), go (ltb l.cw (r.left + r.width)) (ltb-true l.cw (r.left + r.width)) p.1)
  where
    go : (t : Bool) → (t ≡ true → l.cw < r.left + r.width) → (t || ltb l.ch (r.top + r.height)) ≡ true → (l.cw ≤ r.left + (r.width - 1)) ⊎ (l.ch ≤ r.top + (r.height - 1))
    go true f e = let k = f refl in inl (omega arith)
    go false f e = let k = ltb-true l.ch (r.top + r.height) e in inr (omega arith)

-- what the rows above and below and the sides of a rectangle say together, once it is trimmed
pub parts_are : (l : Layout) (r t : Rectangle) (p q : Plane) (rows sides : Bool) → past_cells l r ≡ false → t ≡ trimmed_of r
    → rows ≡ (differs_in l (rows_above l t) p q || differs_in l (rows_below l t) p q)
    → sides ≡ (differs_in l (left_part t) p q || differs_in l (right_part l t) p q)
    → (rows || sides) ≡ differs_outside l r p q
parts_are l r t p q rows sides e f g h = rw (h, g, f) (outside_is l (trimmed_of r) p q (trimmed_in l r e) ∙ trimmed_outside l r p q)

-- one of two answers, where the first says all or says nothing
pub first_says : (a b w : Bool) → a ≡ true → (a || b) ≡ w → a ≡ w
first_says true b w e h = h
first_says false b w e h = let z : ◌≡◌ {A = Bool} false true = e in cc

pub second_says : (a b w : Bool) → a ≡ false → (a || b) ≡ w → b ≡ w
second_says false b w e h = h
second_says true b w e h = let z : ◌≡◌ {A = Bool} true false = e in cc
