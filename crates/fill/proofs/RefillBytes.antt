-- Out after a refill, byte by byte: "Those rows are then the guided conversion afterwards, and every other row's bytes are untouched." The fourth
-- byte of a pixel and all surplus keep what they held. Near rows are the rows from `near_first` on and before `near_end`, for which Bytes has the laws;
-- the hard step is `row_kept`: a byte of a row that isn't stored lies before or behind every row that is (`row_fits`).
use Rattle.std.proofs.Common.{◌≡◌, refl, sym, subst, ◌∙◌, ◌⊎◌, inl, inr, ⊎_elim, Bool, true, false, cond, true≢false, List, ℕ, zero, suc, ◌+◌, ◌-◌, ◌*◌, ◌≤◌, ◌<◌, mul-le-mul_right, arith, ltb, get_or, Float, ltb-true, ltb-false}
use Rattle.laws.specs.Refusals.{Answer, accepted}
use Rattle.laws.proofs.Refusals.{accepted_is}
use Rattle.laws.proofs.Rows.{row_fits}
use Rattle.image.specs.declared.layout.Layout.{Layout}
use Rattle.image.specs.declared.rectangle.Rectangle.{Rectangle}
use Rattle.image.specs.Picture.{picture_of, Planes}
use Rattle.image.specs.Rectangles.{is_empty}
use Rattle.guided_rows.specs.CatchingUp.{guided_rows}
use Rattle.kernels.specs.Kernels.{Colour}
use Rattle.kernel_blocks.specs.Stores.{pixels}
use Rattle.kernel_blocks.specs.Inner.Stores.{channel}
use Rattle.kernel_blocks.proofs.Puts.{before, after}
use Rattle.fill.specs.declared.options.ChromaUpsampling.TheVariants.{LumaGuided}
use Rattle.fill.specs.Fill.{fill_colour, pixel_rows, fill_scratch}
use Rattle.fill.specs.Refill.{RefillCall, RefillGiven, near_row, rows_where, near_first, near_end}
use Rattle.fill.proofs.Bytes.{surplus_kept, channel_is, fourth_kept}
use Rattle.fill.proofs.Near.{near_order, near_yes, near_rows}
use Rattle.fill.proofs.Taken.{RefillTaken, taken}

-- numbers that differ
apart : (n y : ℕ) → (n ≡ y → ⊥) → (n < y) ⊎ (y < n)
apart n y d = go (ltb n y) (ltb-true n y) (ltb-false n y)
  where
    go : (t : Bool) → (t ≡ true → n < y) → (t ≡ false → y ≤ n) → (n < y) ⊎ (y < n)
    go true f g = inl (f refl)
    go false f g = let k = g refl in inr (more k)
      where
        more : y ≤ n → y < n
        more k = elim (ordered (ltb y n) (ltb-true y n) (ltb-false y n)) [ inl h ↦ h | inr h ↦ absurd (d (omega arith)) ]
          where
            ordered : (t : Bool) → (t ≡ true → y < n) → (t ≡ false → n ≤ y) → (y < n) ⊎ (n ≤ y)
            ordered true f g = inl (f refl)
            ordered false f g = inr (g refl)

-- a byte of a row that isn't stored keeps what it held
pub row_kept : (w size : ℕ) (f : ℕ → ℕ → Colour) (p : ℕ → Bool) (out : List ℕ) → 3 ≤ size → (n y j : ℕ) → p y ≡ false → y * (w * size) ≤ j → j < y * (w * size) + w * size
    → get_or (rows_where w size f p n out) j 0 ≡ get_or out j 0
unfolding rows_where
row_kept w size f p out t zero y j e a b = refl
row_kept w size f p out t (suc n) y j e a b = go (p n) (row_kept w size f p out t n y j e a b) (λ q. apart n y (λ i. true≢false (sym q ∙ subst (λ (m : ℕ). p m ≡ false) (sym i) e)))
  where
    r : List ℕ
    r = rows_where w size f p n out

    go : (c : Bool) → get_or r j 0 ≡ get_or out j 0 → (c ≡ true → (n < y) ⊎ (y < n)) → get_or (cond c (pixels r (n * (w * size)) size (f n) w) r) j 0 ≡ get_or out j 0
    go false ih s = ih
    go true ih s =
        ⊎_elim
        (λ h. after r (n * (w * size)) size (f n) w j t (omega (arith, row_fits n y (w * size) h)) ∙ ih)
        (λ h. before r (n * (w * size)) size (f n) w j (omega (arith, row_fits y n (w * size) h)) ∙ ih)
        (s refl)

-- ---- a refill that was accepted

module _ (c : RefillCall) (answer : Answer) (s' : List Float) (out' : List ℕ) (g : RefillGiven c answer s' out') (e : accepted answer ≡ true) where
  relied : RefillTaken c
  relied = taken c (sym g.answers ∙ accepted_is answer e)

  abbrev f : ℕ → ℕ → Colour
  f = fill_colour LumaGuided c.kernel (picture_of c.layout c.new)

  stored : out' ≡ rows_where c.layout.w c.size f (near_row c.layout c.cells) c.layout.h c.out
  stored = rw e at g.gives

  painted : out' ≡ pixel_rows c.layout.w c.size f (near_first c.layout c.cells) (near_end c.layout c.cells - near_first c.layout c.cells) c.out
  painted =
      let t = relied.rest in
      stored ∙ sym (near_rows c.layout c.cells t.planes.sound t.cells c.layout.w c.size f c.out)

  -- red, green and blue of column x of row y, near the rectangle
  pub near_byte : (x y k : ℕ) → x < c.layout.w → y < c.layout.h → near_row c.layout c.cells y ≡ true → k < 3
      → get_or out' (y * (c.layout.w * c.size) + x * c.size + k) 0 ≡ channel (f y x) k
  near_byte x y k X Y n K =
      let l = c.layout in
      let t = relied.rest in
      let i = near_yes l c.cells t.planes.sound t.cells y Y n in
      let o = near_order l c.cells t.planes.sound t.cells in
      let a = near_first l c.cells in
      let b = near_end l c.cells in
      let z : a + (y - a) ≡ y = omega arith in
      let u : a + (b - a) ≡ b = omega arith in
      let m : b * (l.w * c.size) ≤ l.h * (l.w * c.size) = mul-le-mul_right (l.w * c.size) o.1 in
      let q : l.h * (l.w * c.size) ≡ l.w * l.h * c.size = omega arith in
      rw painted (rw z at (channel_is l.w c.size f a c.out (b - a) (y - a) x k (omega arith) X K t.lent.size_least (rw u (omega (arith, t.lent.output)))))

  -- every byte of another row
  pub far_kept : (y j : ℕ) → near_row c.layout c.cells y ≡ false → y * (c.layout.w * c.size) ≤ j → j < y * (c.layout.w * c.size) + c.layout.w * c.size → get_or out' j 0 ≡ get_or c.out j 0
  far_kept y j n a b = rw stored (row_kept c.layout.w c.size f (near_row c.layout c.cells) c.out relied.rest.lent.size_least c.layout.h y j n a b)

  -- what lies behind the picture
  pub kept_behind : (j : ℕ) → c.layout.w * c.layout.h * c.size ≤ j → get_or out' j 0 ≡ get_or c.out j 0
  kept_behind j h =
      let l = c.layout in
      let t = relied.rest in
      let o = near_order l c.cells t.planes.sound t.cells in
      let a = near_first l c.cells in
      let b = near_end l c.cells in
      let u : a + (b - a) ≡ b = omega arith in
      let m : b * (l.w * c.size) ≤ l.h * (l.w * c.size) = mul-le-mul_right (l.w * c.size) o.1 in
      let q : l.h * (l.w * c.size) ≡ l.w * l.h * c.size = omega arith in
      rw painted (surplus_kept l.w c.size f a c.out (b - a) j t.lent.size_least (rw u (omega arith)))

  -- "The fourth keeps what it held."
  pub kept_fourth : (x y : ℕ) → c.size ≡ 4 → get_or out' (y * (c.layout.w * 4) + x * 4 + 3) 0 ≡ get_or c.out (y * (c.layout.w * 4) + x * 4 + 3) 0
  kept_fourth x y z =
      let a = near_first c.layout c.cells in
      rw (painted, z) (fourth_kept c.layout.w f a (near_end c.layout c.cells - a) c.out x y)

-- ---- "An empty rectangle converts nothing."

no_row : (w size : ℕ) (f : ℕ → ℕ → Colour) (p : ℕ → Bool) (out : List ℕ) → ((y : ℕ) → p y ≡ false) → (n : ℕ) → rows_where w size f p n out ≡ out
unfolding rows_where
no_row w size f p out e zero = refl
no_row w size f p out e (suc n) = rw (e n) (no_row w size f p out e n)

empty_far : (l : Layout) (r : Rectangle) → is_empty r ≡ true → (y : ℕ) → near_row l r y ≡ false
unfolding near_row
empty_far l r e y = rw e refl

empty_scratch : (l : Layout) (r : Rectangle) (ps : Planes) (s : List Float) → is_empty r ≡ true → fill_scratch LumaGuided l ps (near_first l r) (near_end l r - near_first l r) s ≡ s
unfolding near_first near_end fill_scratch guided_rows
empty_scratch l r ps s e = rw e refl

-- whatever it answers
pub nothing_converted : (c : RefillCall) (answer : Answer) (s' : List Float) (out' : List ℕ) → RefillGiven c answer s' out' → is_empty c.cells ≡ true → (out' ≡ c.out) × (s' ≡ c.scratch)
nothing_converted c answer s' out' g e =
    let l = c.layout in
    (g.gives ∙ same (accepted answer) (no_row l.w c.size (fill_colour LumaGuided c.kernel (picture_of l c.new)) (near_row l c.cells) c.out (empty_far l c.cells e) l.h), g.scratches ∙ same (accepted answer) (empty_scratch l c.cells c.new c.scratch e))
  where
    same : (b : Bool) {A : Type 0} {x y : A} → x ≡ y → cond b x y ≡ y
    same true h = h
    same false h = refl
