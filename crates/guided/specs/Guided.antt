-- 'Guided' of document 01: a sample and a row, from a picture, a component and a row number alone. Every operation is rounded once, in the order written. Definitions only.
use Rattle.std.specs.Prelude.{cond, List, ℕ, ◌+◌, ◌-◌, ◌*◌, ◌/◌, ◌%◌, min, Float}
use Rattle.laws.specs.Floats.{f32, ◌⊕◌, ◌⊖◌, ◌⊗◌, ◌⊘◌}
use Rattle.laws.specs.Lists.{table}
use Rattle.laws.specs.Sums.{sum_to}
use Rattle.image.specs.declared.layout.Layout.{Layout}
use Rattle.image.specs.declared.chroma.Chroma.{Chroma}
use Rattle.image.specs.Picture.{Picture}
use Rattle.fround.specs.Rounding.{fmin, fmax}
use Rattle.taps.specs.Taps.{lerp_of, tap_of, phase_of}

-- "(left + middle) + right", and likewise down, of n values "with edges repeated"
unfoldable pub three : (Float → Float → Float) → ℕ → (ℕ → Float) → ℕ → Float
three op n f i = op (op (f (i - 1)) (f i)) (f (min (i + 1) (n - 1)))

-- what is made across of a chroma row, cell by cell: luma, its sum and the sum of its squares; a component's samples, their sum and the sum of their products with luma
pub data Across : Type 0 where
  Luma LumaSum SquareSum : Across
  Cell CellSum ProductSum : Chroma → Across

-- "Cell luma y: the sum over the cell's pixels inside the picture, divided by their number.": cell i of chroma row j, `luma y x` being the samples
unfoldable pub luma_of : Layout → (ℕ → ℕ → ℕ) → ℕ → ℕ → Float
luma_of l luma j i =
    let nx = min l.rh (l.w - i * l.rh) in
    let ny = min l.rv (l.h - j * l.rv) in
    f32 (sum_to ny (λ dy. sum_to nx (λ dx. luma (j * l.rv + dy) (i * l.rh + dx)))) ⊘ f32 (nx * ny)

-- "the least and greatest c of the 3 by 3 cells round its own cell": op is fmin or fmax, `c j i` the samples
unfoldable pub extreme_of : Layout → (Float → Float → Float) → (ℕ → ℕ → ℕ) → ℕ → ℕ → Float
extreme_of l op c j i = three op l.ch (λ r. three op l.cw (λ q. f32 (c r q)) i) j

module _ (p : Picture) where
  unfoldable pub cell_luma : ℕ → ℕ → Float
  cell_luma j i = luma_of p.layout p.luma j i

  unfoldable pub cell_of : Chroma → ℕ → ℕ → Float
  cell_of k j i = f32 (p.chroma k j i)

  -- "Across, (left + middle) + right for y, y·y, c and y·c": cell i of chroma row j
  unfoldable pub across_val : Across → ℕ → ℕ → Float
  across_val Luma j i = cell_luma j i
  across_val LumaSum j i = three ◌⊕◌ p.layout.cw (λ i. cell_luma j i) i
  across_val SquareSum j i = three ◌⊕◌ p.layout.cw (λ i. cell_luma j i ⊗ cell_luma j i) i
  across_val (Cell k) j i = cell_of k j i
  across_val (CellSum k) j i = three ◌⊕◌ p.layout.cw (λ i. cell_of k j i) i
  across_val (ProductSum k) j i = three ◌⊕◌ p.layout.cw (λ i. cell_luma j i ⊗ cell_of k j i) i

  unfoldable pub extreme : (Float → Float → Float) → Chroma → ℕ → ℕ → Float
  extreme op k = extreme_of p.layout op (p.chroma k)

-- "eps = (16·s)·s, s = maxval/255"
unfoldable pub epsilon : Layout → Float
epsilon l = let s = f32 l.maxval ⊘ f32 255 in f32 16 ⊗ s ⊗ s

-- what follows looks at the layout alone, and at what `rd` says that was made across
module _ (l : Layout) where
  -- "Down, mean = ((up + middle) + down) · (1/9), 1/9 being the f32 nearest."
  unfoldable pub mean : (Across → ℕ → ℕ → Float) → Across → ℕ → ℕ → Float
  mean rd q j i = three ◌⊕◌ l.ch (λ r. rd q r i) j ⊗ (f32 1 ⊘ f32 9)

  -- "D = max(mean yy − my·my, 0) + eps. Slope a = (mean yc − my·mc)/D."
  unfoldable pub slope_of : (Across → ℕ → ℕ → Float) → Chroma → ℕ → ℕ → Float
  slope_of rd k j i =
      let my = mean rd LumaSum j i in
      let D = fmax (mean rd SquareSum j i ⊖ my ⊗ my) (f32 0) ⊕ epsilon l in
      (mean rd (ProductSum k) j i ⊖ my ⊗ mean rd (CellSum k) j i) ⊘ D

  -- "Row y: lerp y, c and a down by the tap": rows g, at cell i
  unfoldable pub down_to : (ℕ → ℕ → Float) → ℕ → ℕ → Float
  down_to g y i = let t = tap_of l.rv l.ch y in lerp_of (g t.i0 i) (g t.i1 i) t.f

  -- "then across by the pixel's phase": a row of cells g, at column x
  unfoldable pub across_to : (ℕ → Float) → ℕ → Float
  across_to g x =
      let i = x / l.rh in
      let f = phase_of l.rh (x % l.rh) in
      cond f.left (lerp_of (g (i - 1)) (g i) f.f) (lerp_of (g i) (g (min (i + 1) (l.cw - 1))) f.f)

  -- "luma − y" at column x, from the row of cell luma
  unfoldable pub detail_of : (ℕ → Float) → Float → ℕ → Float
  detail_of gy luma x = luma ⊖ across_to gy x

  -- "Value = c + a·(luma − y), then raised to the least and lowered to the greatest": from rows of cells, and the detail
  unfoldable pub value_of : (ℕ → Float) → (ℕ → Float) → (ℕ → Float) → (ℕ → Float) → Float → ℕ → Float
  value_of gc ga lo hi detail x = fmin (fmax (across_to gc x ⊕ across_to ga x ⊗ detail) (lo (x / l.rh))) (hi (x / l.rh))

module _ (p : Picture) where
  unfoldable pub slope : Chroma → ℕ → ℕ → Float
  slope = slope_of p.layout (across_val p)

  -- column x of row y of component k
  unfoldable pub guided_sample : Chroma → ℕ → ℕ → Float
  guided_sample k y x =
      let l = p.layout in
      value_of l (down_to l (across_val p (Cell k)) y) (down_to l (slope k) y) (extreme p fmin k (y / l.rv)) (extreme p fmax k (y / l.rv))
      (detail_of l (down_to l (across_val p Luma) y) (f32 (p.luma y x)) x) x

  unfoldable pub guided_row : Chroma → ℕ → List Float
  guided_row k y = table p.layout.w (guided_sample k y)
