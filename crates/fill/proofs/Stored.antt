-- Stored rows of pixels: two of them in either order, one stored again, and why rows converted again over a whole picture make the new one.
use Rattle.std.proofs.Common.{◌≡◌, refl, sym, ap, ◌∙◌, ◌≢◌, ◌⊎◌, ⊎_elim, Bool, true, false, cond, List, ℕ, zero, suc, ◌+◌, ◌-◌, ◌*◌, ◌≤◌, ◌<◌, min, arith, set, set-set}
use lib.Seq.{set_comm}
use Rattle.laws.proofs.Rows.{row_fits}
use Rattle.kernels.specs.Kernels.{Colour}
use Rattle.kernel_blocks.specs.Stores.{pixel, pixels}
use Rattle.kernel_blocks.proofs.Puts.{pixels_same}
use Rattle.fill.specs.Fill.{pixel_rows}
use Rattle.fill.specs.Refill.{rows_where}

-- ---- one pixel

-- a byte stored elsewhere may be stored first
pixel_set : (l : List ℕ) (at : ℕ) (c : Colour) (i v : ℕ) → at ≢ i → at + 1 ≢ i → at + 2 ≢ i → set (pixel l at c) i v ≡ pixel (set l i v) at c
unfolding pixel
pixel_set l at c i v h₀ h₁ h₂ =
    set_comm (set (set l at c.red) (at + 1) c.green) (at + 2) i c.blue v h₂
    ∙ ap (λ (m : List ℕ). set m (at + 2) c.blue) (set_comm (set l at c.red) (at + 1) i c.green v h₁ ∙ ap (λ (m : List ℕ). set m (at + 1) c.green) (set_comm l at i c.red v h₀))

-- pixels apart, in either order
pixel_comm : (l : List ℕ) (at to : ℕ) (c d : Colour) → at + 3 ≤ to → pixel (pixel l at c) to d ≡ pixel (pixel l to d) at c
unfolding pixel
pixel_comm l at to c d h =
    ap (λ (m : List ℕ). set (set m (to + 1) d.green) (to + 2) d.blue) (pixel_set l at c to d.red (omega arith) (omega arith) (omega arith))
    ∙ ap (λ (m : List ℕ). set m (to + 2) d.blue) (pixel_set (set l to d.red) at c (to + 1) d.green (omega arith) (omega arith) (omega arith))
    ∙ pixel_set (set (set l to d.red) (to + 1) d.green) at c (to + 2) d.blue (omega arith) (omega arith) (omega arith)

-- a pixel stored again
pixel_over : (l : List ℕ) (at : ℕ) (c d : Colour) → pixel (pixel l at c) at d ≡ pixel l at d
unfolding pixel
pixel_over l at c d =
    ap (λ (m : List ℕ). set (set m (at + 1) d.green) (at + 2) d.blue) red
    ∙ ap (λ (m : List ℕ). set m (at + 2) d.blue) green
    ∙ set-set (set (set l at d.red) (at + 1) d.green) (at + 2) c.blue d.blue
  where
    red : set (set (set (set l at c.red) (at + 1) c.green) (at + 2) c.blue) at d.red ≡ set (set (set l at d.red) (at + 1) c.green) (at + 2) c.blue
    red =
        set_comm (set (set l at c.red) (at + 1) c.green) (at + 2) at c.blue d.red (omega arith)
        ∙ ap (λ (m : List ℕ). set m (at + 2) c.blue) (set_comm (set l at c.red) (at + 1) at c.green d.red (omega arith) ∙ ap (λ (m : List ℕ). set m (at + 1) c.green) (set-set l at c.red d.red))

    green : set (set (set (set l at d.red) (at + 1) c.green) (at + 2) c.blue) (at + 1) d.green ≡ set (set (set l at d.red) (at + 1) d.green) (at + 2) c.blue
    green =
        set_comm (set (set l at d.red) (at + 1) c.green) (at + 2) (at + 1) c.blue d.green (omega arith)
        ∙ ap (λ (m : List ℕ). set m (at + 2) c.blue) (set-set (set l at d.red) (at + 1) c.green d.green)

-- ---- a run of pixels

-- a pixel behind the run may be stored before it
pixels_pixel : (l : List ℕ) (at size : ℕ) (f : ℕ → Colour) (n to : ℕ) (d : Colour) → 3 ≤ size → at + n * size ≤ to → pixel (pixels l at size f n) to d ≡ pixels (pixel l to d) at size f n
unfolding pixels
pixels_pixel l at size f zero to d t h = refl
pixels_pixel l at size f (suc n) to d t h =
    pixel_comm (pixels l at size f n) (at + n * size) to (f n) d (omega arith)
    ∙ ap (λ (m : List ℕ). pixel m (at + n * size) (f n)) (pixels_pixel l at size f n to d t (omega arith))

-- runs apart, in either order
pixels_comm : (l : List ℕ) (at size : ℕ) (f : ℕ → Colour) (n to : ℕ) (g : ℕ → Colour) (m : ℕ) → 3 ≤ size → at + n * size ≤ to → pixels (pixels l at size f n) to size g m ≡ pixels (pixels l to size g m) at size f n
unfolding pixels
pixels_comm l at size f n to g zero t h = refl
pixels_comm l at size f n to g (suc m) t h =
    ap (λ (k : List ℕ). pixel k (to + m * size) (g m)) (pixels_comm l at size f n to g m t h)
    ∙ pixels_pixel (pixels l to size g m) at size f n (to + m * size) (g m) t (omega arith)

-- a run stored again
pixels_over : (l : List ℕ) (at size : ℕ) (f g : ℕ → Colour) (n : ℕ) → 3 ≤ size → pixels (pixels l at size f n) at size g n ≡ pixels l at size g n
unfolding pixels
pixels_over l at size f g zero t = refl
pixels_over l at size f g (suc n) t =
    ap (λ (k : List ℕ). pixel k (at + n * size) (g n)) (sym (pixels_pixel (pixels l at size f n) at size g n (at + n * size) (f n) t (omega arith)))
    ∙ pixel_over (pixels (pixels l at size f n) at size g n) (at + n * size) (f n) (g n)
    ∙ ap (λ (k : List ℕ). pixel k (at + n * size) (g n)) (pixels_over l at size f g n t)

-- ---- rows

-- row y of w pixels
abbrev row_of : ℕ → ℕ → (ℕ → ℕ → Colour) → ℕ → List ℕ → List ℕ
row_of w size f y out = pixels out (y * (w * size)) size (f y) w

module _ (w size : ℕ) (t : 3 ≤ size) where
  -- rows before row n may be stored after it
  where_comm : (f g : ℕ → ℕ → Colour) (p : ℕ → Bool) (n m : ℕ) (out : List ℕ) → m ≤ n → rows_where w size g p m (row_of w size f n out) ≡ row_of w size f n (rows_where w size g p m out)
  unfolding rows_where
  where_comm f g p n zero out h = refl
  where_comm f g p n (suc m) out h = rw (where_comm f g p n m out (omega arith)) (go (p m))
    where
      r : List ℕ
      r = rows_where w size g p m out

      go : (b : Bool) → cond b (row_of w size g m (row_of w size f n r)) (row_of w size f n r) ≡ row_of w size f n (cond b (row_of w size g m r) r)
      go true = sym (pixels_comm r (m * (w * size)) size (g m) w (n * (w * size)) (f n) w t (omega (arith, row_fits m n (w * size) h)))
      go false = refl

  -- a picture of f whose rows that pass are stored again as g's is g's, where the others are alike
  pub again : (f g : ℕ → ℕ → Colour) (p : ℕ → Bool) (n : ℕ) (base : List ℕ) → ((y : ℕ) → y < n → p y ≡ false → (x : ℕ) → x < w → f y x ≡ g y x)
      → rows_where w size g p n (pixel_rows w size f 0 n base) ≡ pixel_rows w size g 0 n base
  unfolding rows_where pixel_rows
  again f g p zero base e = refl
  again f g p (suc n) base e =
      let z : 0 + n ≡ n = omega arith in
      rw (z, where_comm f g p n n (pixel_rows w size f 0 n base) (omega arith), again f g p n base (λ y h. e y (omega arith))) (go (p n) (e n (omega arith)))
    where
      q : List ℕ
      q = pixel_rows w size g 0 n base

      go : (b : Bool) → (b ≡ false → (x : ℕ) → x < w → f n x ≡ g n x) → cond b (row_of w size g n (row_of w size f n q)) (row_of w size f n q) ≡ row_of w size g n q
      go true k = pixels_over q (n * (w * size)) size (f n) (g n) w t
      go false k = pixels_same q (n * (w * size)) size (f n) (g n) w (k refl)

-- of the first n rows, those from a on and before b
up_to : (w size : ℕ) (f : ℕ → ℕ → Colour) (p : ℕ → Bool) (a b h : ℕ) (out : List ℕ)
    → ((y : ℕ) → y < h → p y ≡ true → (a ≤ y) × (y < b)) → ((y : ℕ) → y < h → p y ≡ false → (y < a) ⊎ (b ≤ y))
    → (n : ℕ) → n ≤ h → rows_where w size f p n out ≡ pixel_rows w size f a (min n b - a) out
unfolding rows_where pixel_rows
up_to w size f p a b h out ys ns zero k = let e : min 0 b - a ≡ 0 = omega arith in rw e refl
up_to w size f p a b h out ys ns (suc n) k = rw (up_to w size f p a b h out ys ns n (omega arith)) (go (p n) (ys n k) (ns n k))
  where
    r : List ℕ
    r = pixel_rows w size f a (min n b - a) out

    stays : min n b - a ≡ min (suc n) b - a → r ≡ pixel_rows w size f a (min (suc n) b - a) out
    stays e = ap (λ (m : ℕ). pixel_rows w size f a m out) e

    go : (c : Bool) → (c ≡ true → (a ≤ n) × (n < b)) → (c ≡ false → (n < a) ⊎ (b ≤ n)) → cond c (row_of w size f n r) r ≡ pixel_rows w size f a (min (suc n) b - a) out
    go true s o =
        let q = s refl in
        let d : min (suc n) b - a ≡ suc (min n b - a) = omega arith in
        let z : a + (min n b - a) ≡ n = omega arith in
        rw (d, z) refl
    go false s o = ⊎_elim (λ q. stays (omega arith)) (λ q. stays (omega arith)) (o refl)

-- rows a, .. b - 1 are those that pass
pub where_is : (w size : ℕ) (f : ℕ → ℕ → Colour) (p : ℕ → Bool) (a b h : ℕ) (out : List ℕ) → a ≤ b → b ≤ h
    → ((y : ℕ) → y < h → p y ≡ true → (a ≤ y) × (y < b)) → ((y : ℕ) → y < h → p y ≡ false → (y < a) ⊎ (b ≤ y))
    → pixel_rows w size f a (b - a) out ≡ rows_where w size f p h out
where_is w size f p a b h out i j ys ns =
    let e : b - a ≡ min h b - a = omega arith in
    ap (λ (n : ℕ). pixel_rows w size f a n out) e ∙ sym (up_to w size f p a b h out ys ns h (omega arith))
