-- What the arithmetic of a guided sample looks at, and nothing else.
-- Each law unfolds one definition and replaces the few values that it looks at. The one thing to know is that these values are there: the
-- tap's rows by `Taken`, the column's own cell and its neighbours by `own_column`.
use Rattle.std.proofs.Common.{◌≡◌, refl, ℕ, ◌+◌, ◌-◌, ◌/◌, ◌≤◌, ◌<◌, min, arith, Float}
use Rattle.laws.specs.Floats.{◌⊕◌}
use Rattle.image.specs.declared.layout.Layout.{Layout}
use Rattle.image.specs.Inner.Tests.{Sound}
use Rattle.image.specs.declared.chroma.Chroma.{Chroma}
use Rattle.taps.specs.Taps.{tap_of}
use Rattle.guided.specs.Guided.{three, Across, LumaSum, SquareSum, CellSum, ProductSum, mean, slope_of, down_to, across_to, detail_of, value_of}
use Rattle.guided.specs.Calls.{top_of, last_of}
use Rattle.guided.proofs.Taken.{taken, own_column}

-- q is i or a neighbour of i among n
abbrev pub Beside : ℕ → ℕ → ℕ → Type 0
Beside n i q = (q ≤ i + 1) × (i ≤ q + 1) × (q < n)

-- three neighbours
pub three_cong : (op : Float → Float → Float) (n : ℕ) (f g : ℕ → Float) (i : ℕ) → i < n → ((q : ℕ) → Beside n i q → f q ≡ g q) → three op n f i ≡ three op n g i
unfolding three
three_cong op n f g i h e = rw (e (i - 1) (omega arith), e i (omega arith), e (min (i + 1) (n - 1)) (omega arith)) refl

module _ (l : Layout) where
  -- what two readers say alike of the rows round row j, at cell i
  abbrev pub Agrees : (Across → ℕ → ℕ → Float) → (Across → ℕ → ℕ → Float) → Across → ℕ → ℕ → Type 0
  Agrees rd rd' q j i = (r : ℕ) → Beside l.ch j r → rd q r i ≡ rd' q r i

  mean_cong : (rd rd' : Across → ℕ → ℕ → Float) (q : Across) (j i : ℕ) → j < l.ch → Agrees rd rd' q j i → mean l rd q j i ≡ mean l rd' q j i
  unfolding mean
  mean_cong rd rd' q j i h e = rw (three_cong ◌⊕◌ l.ch (λ r. rd q r i) (λ r. rd' q r i) j h e) refl

  -- a slope looks at four sums of the three rows round its own
  pub slope_cong : (rd rd' : Across → ℕ → ℕ → Float) (k : Chroma) (j i : ℕ) → j < l.ch
      → Agrees rd rd' LumaSum j i → Agrees rd rd' SquareSum j i → Agrees rd rd' (CellSum k) j i → Agrees rd rd' (ProductSum k) j i → slope_of l rd k j i ≡ slope_of l rd' k j i
  unfolding slope_of
  slope_cong rd rd' k j i h e1 e2 e3 e4 =
      rw (mean_cong rd rd' LumaSum j i h e1, mean_cong rd rd' SquareSum j i h e2, mean_cong rd rd' (CellSum k) j i h e3, mean_cong rd rd' (ProductSum k) j i h e4) refl

  -- a row lerped down looks at the rows from its first to its last
  pub down_cong : (s : Sound l) (y : ℕ) → y < l.h → (g g' : ℕ → ℕ → Float) (i : ℕ) → ((j : ℕ) → top_of l y ≤ j → j ≤ last_of l y → g j i ≡ g' j i) → down_to l g y i ≡ down_to l g' y i
  unfolding down_to
  down_cong s y h g g' i e =
      let t = taken l s y h in
      rw (e (tap_of l.rv l.ch y).i0 (omega (arith, t.first)) (omega (arith, t.first, t.order)), e (tap_of l.rv l.ch y).i1 t.second_low t.second_high) refl

  module _ (s : Sound l) (x : ℕ) (X : x < l.w) where
    -- a row lerped across looks at the column's own cell and its neighbours
    pub across_cong : (g g' : ℕ → Float) → ((i : ℕ) → Beside l.cw (x / l.rh) i → g i ≡ g' i) → across_to l g x ≡ across_to l g' x
    unfolding across_to
    across_cong g g' e =
        let h = own_column l s x X in
        rw (e (x / l.rh - 1) (omega arith), e (x / l.rh) (omega arith), e (min (x / l.rh + 1) (l.cw - 1)) (omega arith)) refl

    -- and so does the detail, beside luma
    pub detail_cong : (g g' : ℕ → Float) (v v' : Float) → ((i : ℕ) → Beside l.cw (x / l.rh) i → g i ≡ g' i) → v ≡ v' → detail_of l g v x ≡ detail_of l g' v' x
    unfolding detail_of
    detail_cong g g' v v' e f = rw (across_cong g g' e, f) refl

    -- a value looks at samples and slopes there, at the least and greatest of the own cell, and at the detail
    pub value_cong : (c c' a a' lo lo' hi hi' : ℕ → Float) (d d' : Float) → ((i : ℕ) → Beside l.cw (x / l.rh) i → c i ≡ c' i) → ((i : ℕ) → Beside l.cw (x / l.rh) i → a i ≡ a' i)
        → lo (x / l.rh) ≡ lo' (x / l.rh) → hi (x / l.rh) ≡ hi' (x / l.rh) → d ≡ d' → value_of l c a lo hi d x ≡ value_of l c' a' lo' hi' d' x
    unfolding value_of
    value_cong c c' a a' lo lo' hi hi' d d' ec ea el eh ed = rw (across_cong c c' ec, across_cong a a' ea, el, eh, ed) refl
