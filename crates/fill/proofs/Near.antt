-- Which rows are near a rectangle: they are those from `near_first` on and before `near_end`.
use Rattle.std.proofs.Common.{◌≡◌, refl, ◌⊎◌, inl, inr, Bool, true, false, ◌&&◌, not, cond, List, ℕ, ◌+◌, ◌-◌, ◌*◌, ◌/◌, ◌≤◌, ◌<◌, min, div-lt_iff_lt-mul, le-div_iff_mul-le, mul-le-mul_right, arith, leb, ltb, eqb, leb-true, leb-false, ltb-true, ltb-false, le-leb, lt-ltb, ne_eqb}
use borrow.Author.Tests.{eqb-false}
use Rattle.image.specs.declared.layout.Layout.{Layout}
use Rattle.image.specs.declared.rectangle.Rectangle.{Rectangle}
use Rattle.image.specs.Inner.Tests.{Sound}
use Rattle.image.specs.Rectangles.{is_empty, past_cells, holds_cell}
use Rattle.image.proofs.Layouts.{neither, begins}
use Rattle.image.proofs.Blocks.{held}
use Rattle.kernels.specs.Kernels.{Colour}
use Rattle.fill.specs.Fill.{pixel_rows}
use Rattle.fill.specs.Refill.{near_row, near_first, near_end, rows_where}
use Rattle.fill.proofs.Stored.{where_is}

both_true : (a b : Bool) → (a && b) ≡ true → (a ≡ true) × (b ≡ true)
both_true true b e = (refl, e)
both_true false b e = let z : ◌≡◌ {A = ℕ} 0 1 = cc in absurd (omega arith)

-- a rectangle that has a cell lies within the plane, where it passes 19
some_inside : (l : Layout) (r : Rectangle) → past_cells l r ≡ false → is_empty r ≡ false → ((r.left + r.width ≤ l.cw) × (r.top + r.height ≤ l.ch)) × (0 < r.height)
unfolding past_cells is_empty
some_inside l r e f =
    let z = neither (eqb r.width 0) (eqb r.height 0) f in
    let h = eqb-false r.height 0 z.1 in
    let n = neither (ltb l.cw (r.left + r.width)) (ltb l.ch (r.top + r.height)) (rw (z.0, z.1) at e) in
    ((ltb-false l.cw (r.left + r.width) n.0, ltb-false l.ch (r.top + r.height) n.1), omega arith)

module _ (l : Layout) (r : Rectangle) (o : Sound l) (e : past_cells l r ≡ false) where
  -- the numbers of the two rows are no products that wrap
  pub top_most : is_empty r ≡ false → (r.top + r.height ≤ 8192) × ((r.top + r.height + 2) * l.rv ≤ 32776)
  top_most f =
      let s = some_inside l r e f in
      let h = o.ch_most in
      let k = o.h_most in
      let m : r.top + r.height + 2 ≤ 8194 = omega arith in
      let p : (r.top + r.height + 2) * l.rv ≤ 8194 * l.rv = mul-le-mul_right l.rv m in
      let q = o.rv_most in
      (omega arith, omega arith)

  pub near_order : (near_first l r ≤ near_end l r) × (near_end l r ≤ l.h)
  unfolding near_first near_end
  near_order = go (is_empty r) (λ f. some_inside l r e f)
    where
      go : (t : Bool) → (t ≡ false → ((r.left + r.width ≤ l.cw) × (r.top + r.height ≤ l.ch)) × (0 < r.height)) → (cond t 0 ((r.top - 2) * l.rv) ≤ cond t 0 (min ((r.top + r.height + 2) * l.rv) l.h)) × (cond t 0 (min ((r.top + r.height + 2) * l.rv) l.h) ≤ l.h)
      go true k = (omega arith, omega arith)
      go false k =
          let s = k refl in
          let b : r.top * l.rv < l.h = (begins l o r.top 0 (omega arith) o.cw_some).down in
          let m : (r.top - 2) * l.rv ≤ r.top * l.rv = mul-le-mul_right l.rv (omega arith) in
          let n : (r.top - 2) * l.rv ≤ (r.top + r.height + 2) * l.rv = mul-le-mul_right l.rv (omega arith) in
          (omega arith, omega arith)

  pub near_yes : (y : ℕ) → y < l.h → near_row l r y ≡ true → (near_first l r ≤ y) × (y < near_end l r)
  unfolding near_row near_first near_end
  near_yes y Y n = go (is_empty r) n
    where
      go : (t : Bool) → (not t && (leb r.top (y / l.rv + 2) && ltb (y / l.rv) (r.top + r.height + 2))) ≡ true → (cond t 0 ((r.top - 2) * l.rv) ≤ y) × (y < cond t 0 (min ((r.top + r.height + 2) * l.rv) l.h))
      go true n = let z : ◌≡◌ {A = ℕ} 0 1 = cc in absurd (omega arith)
      go false n =
          let p = both_true (leb r.top (y / l.rv + 2)) (ltb (y / l.rv) (r.top + r.height + 2)) n in
          let a = leb-true r.top (y / l.rv + 2) p.0 in
          let d : (r.top - 2) * l.rv ≤ y = (le-div_iff_mul-le o.rv_some).0 (omega arith) in
          let u : y < (r.top + r.height + 2) * l.rv = (div-lt_iff_lt-mul o.rv_some).0 (ltb-true (y / l.rv) (r.top + r.height + 2) p.1) in
          (d, omega arith)

  near_no : (y : ℕ) → y < l.h → near_row l r y ≡ false → (y < near_first l r) ⊎ (near_end l r ≤ y)
  unfolding near_row near_first near_end
  near_no y Y n = go (is_empty r) n
    where
      go : (t : Bool) → (not t && (leb r.top (y / l.rv + 2) && ltb (y / l.rv) (r.top + r.height + 2))) ≡ false → (y < cond t 0 ((r.top - 2) * l.rv)) ⊎ (cond t 0 (min ((r.top + r.height + 2) * l.rv) l.h) ≤ y)
      go true n = inr (omega arith)
      go false n = parts (leb r.top (y / l.rv + 2)) (leb-false r.top (y / l.rv + 2)) n
        where
          parts : (t : Bool) → (t ≡ false → y / l.rv + 2 < r.top) → (t && ltb (y / l.rv) (r.top + r.height + 2)) ≡ false → (y < (r.top - 2) * l.rv) ⊎ (min ((r.top + r.height + 2) * l.rv) l.h ≤ y)
          parts true f n =
              let u : (r.top + r.height + 2) * l.rv ≤ y = (le-div_iff_mul-le o.rv_some).0 (ltb-false (y / l.rv) (r.top + r.height + 2) n) in
              inr (omega arith)
          parts false f n = let k = f refl in inl ((div-lt_iff_lt-mul o.rv_some).0 (omega arith))

  -- the rows that a refill converts
  pub near_rows : (w size : ℕ) (f : ℕ → ℕ → Colour) (out : List ℕ) → pixel_rows w size f (near_first l r) (near_end l r - near_first l r) out ≡ rows_where w size f (near_row l r) l.h out
  near_rows w size f out = where_is w size f (near_row l r) (near_first l r) (near_end l r) l.h out near_order.0 near_order.1 near_yes near_no

-- a cell of the rectangle is within two rows of a row only where that row is near
pub not_held : (l : Layout) (r : Rectangle) (y i j : ℕ) → near_row l r y ≡ false → j ≤ y / l.rv + 2 → y / l.rv ≤ j + 2 → holds_cell r i j ≡ false
unfolding near_row is_empty
not_held l r y i j n a b = go (holds_cell r i j) (λ e. held r i j e)
  where
    go : (t : Bool) → (t ≡ true → ((r.left ≤ i) × (i < r.left + r.width)) × ((r.top ≤ j) × (j < r.top + r.height))) → t ≡ false
    go false k = refl
    go true k =
        let h = k refl in
        let w : eqb r.width 0 ≡ false = some r.width (omega arith) in
        let v : eqb r.height 0 ≡ false = some r.height (omega arith) in
        let p : leb r.top (y / l.rv + 2) ≡ true = le-leb r.top (y / l.rv + 2) (omega arith) in
        let q : ltb (y / l.rv) (r.top + r.height + 2) ≡ true = lt-ltb (y / l.rv) (r.top + r.height + 2) (omega arith) in
        rw (w, v, p, q) at n
      where
        some : (m : ℕ) → 0 < m → eqb m 0 ≡ false
        some m h = ne_eqb m 0 (λ e. omega arith)
