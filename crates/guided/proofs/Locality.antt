-- A guided sample turns on nothing more than two cells from its own.
-- A slope looks one cell round its own cell and the lerps look one cell round that, so two cells in all. Each step is a law of Congruence; how
-- far the cells are is arithmetic over `Taken`.
use Rattle.std.proofs.Common.{◌≡◌, refl, sym, ap, ap₂, ◌∙◌, ℕ, ◌+◌, ◌-◌, ◌*◌, ◌/◌, ◌<◌, min, add-zero, arith, Float}
use native.Mathlib.Nat.{mul-add-div_right, div-eq_of_lt}
use Rattle.laws.specs.Floats.{f32, ◌⊕◌, ◌⊗◌}
use Rattle.laws.specs.Sums.{sum_to}
use Rattle.laws.proofs.Sums.{sum_same}
use Rattle.image.specs.declared.layout.Layout.{Layout}
use Rattle.image.specs.declared.layout.Range.{Range}
use Rattle.image.specs.declared.layout.Range.TheVariants.{Full}
use Rattle.image.specs.Inner.Tests.{Sound}
use Rattle.image.specs.declared.chroma.Chroma.{Chroma}
use Rattle.image.specs.Picture.{Picture, ranged, picture_in, SameButRange}
use Rattle.fround.specs.Rounding.{fmin, fmax}
use Rattle.guided.specs.Guided.{three, Across, Luma, LumaSum, SquareSum, Cell, CellSum, ProductSum, luma_of, extreme_of, cell_luma, cell_of, across_val, extreme, epsilon, mean, slope_of, slope, down_to, across_to, detail_of, value_of, guided_sample}
use Rattle.guided.specs.Events.{Near, AlikeNear}
use Rattle.guided.proofs.Taken.{taken, own_row, own_column}
use Rattle.guided.proofs.Congruence.{Beside, three_cong, slope_cong, down_cong, detail_cong, value_cong}

-- a pixel's cell
own : (r i d : ℕ) → d < r → (i * r + d) / r ≡ i
own r i d h = mul-add-div_right (omega arith) i d ∙ ap (λ (z : ℕ). i + z) (div-eq_of_lt h) ∙ add-zero i

-- p's layout with other samples
abbrev like : Picture → (ℕ → ℕ → ℕ) → (Chroma → ℕ → ℕ → ℕ) → Picture
like p luma chroma = record { layout = p.layout; luma = luma; chroma = chroma }

-- samples that agree with p's no more than two cells from cell (ci, cj)
module _ (p : Picture) (luma : ℕ → ℕ → ℕ) (chroma : Chroma → ℕ → ℕ → ℕ) (ci cj : ℕ)
    (eL : (x y : ℕ) → x < p.layout.w → y < p.layout.h → Near (x / p.layout.rh) ci → Near (y / p.layout.rv) cj → p.luma y x ≡ luma y x)
    (eC : (k : Chroma) (x y : ℕ) → x < p.layout.cw → y < p.layout.ch → Near x ci → Near y cj → p.chroma k y x ≡ chroma k y x) where
  luma_local : (i j : ℕ) → Near i ci → Near j cj → cell_luma p j i ≡ cell_luma (like p luma chroma) j i
  unfolding cell_luma luma_of
  luma_local i j I J =
      let l = p.layout in
      let nx = min l.rh (l.w - i * l.rh) in
      let ny = min l.rv (l.h - j * l.rv) in
      rw (sum_same ny (λ dy. sum_to nx (λ dx. p.luma (j * l.rv + dy) (i * l.rh + dx))) (λ dy. sum_to nx (λ dx. luma (j * l.rv + dy) (i * l.rh + dx)))
      (λ dy Y. sum_same nx (λ dx. p.luma (j * l.rv + dy) (i * l.rh + dx)) (λ dx. luma (j * l.rv + dy) (i * l.rh + dx))
      (λ dx X. eL (i * l.rh + dx) (j * l.rv + dy) (omega arith) (omega arith) (omega (arith, own l.rh i dx (omega arith))) (omega (arith, own l.rv j dy (omega arith)))))) refl

  cell_local : (k : Chroma) (i j : ℕ) → i < p.layout.cw → j < p.layout.ch → Near i ci → Near j cj → cell_of p k j i ≡ cell_of (like p luma chroma) k j i
  unfolding cell_of
  cell_local k i j X Y I J = ap f32 (eC k i j X Y I J)

  -- what is made across at a cell beside the own column
  across_local : (q : Across) (j i : ℕ) → j < p.layout.ch → Beside p.layout.cw ci i → Near j cj → across_val p q j i ≡ across_val (like p luma chroma) q j i
  unfolding across_val
  across_local Luma j i Y b J = luma_local i j (omega arith) J
  across_local LumaSum j i Y b J = three_cong ◌⊕◌ p.layout.cw (λ q. cell_luma p j q) (λ q. cell_luma (like p luma chroma) j q) i b.2 (λ q c. luma_local q j (omega arith) J)
  across_local SquareSum j i Y b J =
      three_cong ◌⊕◌ p.layout.cw (λ q. cell_luma p j q ⊗ cell_luma p j q) (λ q. cell_luma (like p luma chroma) j q ⊗ cell_luma (like p luma chroma) j q) i b.2 (λ q c. ap (λ (z : Float). z ⊗ z) (luma_local q j (omega arith) J))
  across_local (Cell k) j i Y b J = cell_local k i j b.2 Y (omega arith) J
  across_local (CellSum k) j i Y b J = three_cong ◌⊕◌ p.layout.cw (λ q. cell_of p k j q) (λ q. cell_of (like p luma chroma) k j q) i b.2 (λ q c. cell_local k q j c.2 Y (omega arith) J)
  across_local (ProductSum k) j i Y b J =
      three_cong ◌⊕◌ p.layout.cw (λ q. cell_luma p j q ⊗ cell_of p k j q) (λ q. cell_luma (like p luma chroma) j q ⊗ cell_of (like p luma chroma) k j q) i b.2
      (λ q c. ap₂ (λ (y z : Float). y ⊗ z) (luma_local q j (omega arith) J) (cell_local k q j c.2 Y (omega arith) J))

  -- the slope at a cell beside the own cell
  slope_local : (k : Chroma) (j i : ℕ) → Beside p.layout.cw ci i → Beside p.layout.ch cj j → slope p k j i ≡ slope (like p luma chroma) k j i
  unfolding slope
  slope_local k j i b d =
      let go : (q : Across) (r : ℕ) → Beside p.layout.ch j r → across_val p q r i ≡ across_val (like p luma chroma) q r i = λ q r c. across_local q r i c.2 b (omega arith) in
      slope_cong p.layout (across_val p) (across_val (like p luma chroma)) k j i d.2 (go LumaSum) (go SquareSum) (go (CellSum k)) (go (ProductSum k))

  -- the least or the greatest round the own cell
  extreme_local : (op : Float → Float → Float) (k : Chroma) → ci < p.layout.cw → cj < p.layout.ch → extreme p op k cj ci ≡ extreme (like p luma chroma) op k cj ci
  unfolding extreme extreme_of
  extreme_local op k X Y =
      let l = p.layout in
      three_cong op l.ch (λ r. three op l.cw (λ q. f32 (p.chroma k r q)) ci) (λ r. three op l.cw (λ q. f32 (chroma k r q)) ci) cj Y
      (λ r c. three_cong op l.cw (λ q. f32 (p.chroma k r q)) (λ q. f32 (chroma k r q)) ci X (λ q d. ap f32 (eC k q r d.2 c.2 (omega arith) (omega arith))))

  sample_local : Sound p.layout → (k : Chroma) (y x : ℕ) → x < p.layout.w → y < p.layout.h → x / p.layout.rh ≡ ci → y / p.layout.rv ≡ cj → guided_sample p k y x ≡ guided_sample (like p luma chroma) k y x
  unfolding guided_sample
  sample_local s k y x X Y ex ey =
      let l = p.layout in
      let cx = own_column l s x X in
      let cy = own_row l s y Y in
      let t = taken l s y Y in
      let m = like p luma chroma in
      value_cong l s x X _ _ _ _ _ _ _ _ _ _
      (λ i b. down_cong l s y Y (across_val p (Cell k)) (across_val m (Cell k)) i (λ j u v. across_local (Cell k) j i (omega (arith, t.inside)) (omega arith) (omega (arith, t.near, t.above, t.below))))
      (λ i b. down_cong l s y Y (slope p k) (slope m k) i (λ j u v. slope_local k j i (omega arith) (omega (arith, t.near, t.above, t.below, t.inside))))
      (rw (ex, ey) (extreme_local fmin k (omega arith) (omega arith)))
      (rw (ex, ey) (extreme_local fmax k (omega arith) (omega arith)))
      (detail_cong l s x X (down_to l (across_val p Luma) y) (down_to l (across_val m Luma) y) (f32 (p.luma y x)) (f32 (luma y x))
      (λ i b. down_cong l s y Y (across_val p Luma) (across_val m Luma) i (λ j u v. across_local Luma j i (omega (arith, t.inside)) (omega arith) (omega (arith, t.near, t.above, t.below))))
      (ap f32 (eL x y X Y (omega arith) (omega arith))))

-- "Reconstructed samples don't depend on the range": no step of a guided sample looks at it
pub range_free : (range : Range) (p : Picture) (k : Chroma) (y x : ℕ) → guided_sample (picture_in range p) k y x ≡ guided_sample p k y x
unfolding picture_in ranged guided_sample value_of detail_of across_to down_to extreme extreme_of slope slope_of mean epsilon across_val cell_of cell_luma luma_of
range_free range p k y x = refl

-- pictures alike but for the range and what is more than two cells away have the same sample there
pub guided_local : (p q : Picture) (k : Chroma) (y x : ℕ) → Sound p.layout → x < p.layout.w → y < p.layout.h → AlikeNear p q (y / p.layout.rv) (x / p.layout.rh) → guided_sample p k y x ≡ guided_sample q k y x
unfolding SameButRange picture_in
guided_local p q k y x s X Y e =
    sample_local p q.luma q.chroma (x / p.layout.rh) (y / p.layout.rv) e.luma e.chroma s k y x X Y refl refl
    ∙ sym (range_free Full (like p q.luma q.chroma) k y x)
    ∙ ap (λ (l : Layout). guided_sample (record { layout = l; luma = q.luma; chroma = q.chroma }) k y x) e.layout
    ∙ range_free Full q k y x
