-- The laws of the detail and of a component's values, which the trait of their rows asks of each: they look only at what lies behind them. Proofs only.
use Rattle.std.specs.Prelude.{◌≡◌, refl, List, ℕ, ◌+◌, ◌-◌, ◌*◌, ◌/◌, ◌%◌, ◌≤◌, ◌<◌, min, get_or, Float}
use mathlib.Core.Path.{sym, ap, ◌∙◌}
use native.Mathlib.Omega.{arith}
use lib.Ieee.{nan}
use Rattle.laws.specs.Floats.{f32, ◌⊖◌}
use Rattle.image.specs.declared.layout.Layout.{Layout}
use Rattle.image.specs.Inner.Tests.{Sound}
use Rattle.image.specs.Samples.{Plane, sample_at}
use Rattle.image.specs.Scratch.{cell_at}
use Rattle.taps.specs.declared.phases.Phase.{Phase}
use Rattle.taps.specs.Taps.{phase_of}
use Rattle.guided.specs.Guided.{across_to, detail_of, value_of}
use Rattle.guided.specs.Scratch.{detail_at}
use Rattle.guided.proofs.Places.{detail_place}
use Rattle.guided.proofs.Taken.{own_column}
use Rattle.guided_pixels.specs.declared.value_inputs.ValueInputs.{ValueInputs}
use Rattle.guided_pixels.specs.declared.value_inputs.ValueCell.{ValueCell}
use Rattle.guided_pixels.specs.Inner.Across.{phased}
use Rattle.guided_pixels.specs.Inner.Lines.{Alike, Keeps}
use Rattle.guided_pixels.specs.Inner.Pixels.{detail_in}
use Rattle.guided_pixels.specs.Inner.Values.{InputsInside, CellGiven, value_at}

-- rows that are alike in their n cells are lerped alike
pub phased_same : (g h : ℕ → Float) (n : ℕ) (p : Phase) (i : ℕ) → i < n → ((k : ℕ) → k < n → g k ≡ h k) → phased g n p i ≡ phased h n p i
unfolding phased
phased_same g h n p i l e = rw (e (i - 1) (omega arith), e i l, e (min (i + 1) (n - 1)) (omega arith)) refl

pub across_same : (l : Layout) → Sound l → (g h : ℕ → Float) (x : ℕ) → x < l.w → ((k : ℕ) → k < l.cw → g k ≡ h k) → across_to l g x ≡ across_to l h x
unfolding across_to phased
across_same l o g h x k e = phased_same g h l.cw (phase_of l.rh (x % l.rh)) (x / l.rh) (own_column l o x k) e

-- what is written before the detail leaves the values
pub value_same : (l : Layout) → Sound l → (t : ValueInputs) (xs ys : List Float) (len x : ℕ) → InputsInside t (3 * l.w) l.cw len → x < l.w → ((k : ℕ) → 2 * l.w ≤ k → get_or ys k nan ≡ get_or xs k nan) → value_at l ys t x ≡ value_at l xs t x
unfolding value_at value_of
value_same l o t xs ys len x b h e =
    rw (
      across_same l o (cell_at ys t.cells) (cell_at xs t.cells) x h (λ k q. e (t.cells + k) (omega (arith, b.cells.behind))),
      across_same l o (cell_at ys t.slopes) (cell_at xs t.slopes) x h (λ k q. e (t.slopes + k) (omega (arith, b.slopes.behind))),
      e (t.least + x / l.rh) (omega (arith, b.least.behind)),
      e (t.greatest + x / l.rh) (omega (arith, b.greatest.behind)),
      e (detail_at l + x) (omega (arith, (detail_place l).0)),
    ) refl

alike_from : (low at : ℕ) (xs ys : List Float) → Alike low xs ys → low ≤ at → Alike at xs ys
alike_from low at xs ys e h = record { reads = λ q k. e.reads q (omega arith) }

pub detail_keeps : (l : Layout) → Sound l → (p : Plane) (y src : ℕ) → Keeps (λ s x. detail_in l p y s src x) src l.w
unfolding detail_of
detail_keeps l o p y src = record {
  keeps = λ xs ys e x h. ap (λ (v : Float). f32 (sample_at l.sample_bytes p y x) ⊖ v) (across_same l o (cell_at ys src) (cell_at xs src) x h (λ k t. e.reads (src + k) (omega arith)));
}

pub across_keeps : (l : Layout) → Sound l → (src : ℕ) (xs ys : List Float) (i : ℕ) (c : List Float) → i * l.rh + l.rh ≤ l.w → Alike src xs ys
    → ((k : ℕ) → k < l.rh → get_or c k nan ≡ across_to l (cell_at xs src) (i * l.rh + k)) → (k : ℕ) → k < l.rh → get_or c k nan ≡ across_to l (cell_at ys src) (i * l.rh + k)
across_keeps l o src xs ys i c h e p k q = p k q ∙ sym (across_same l o (cell_at ys src) (cell_at xs src) (i * l.rh + k) (omega arith) (λ j t. e.reads (src + j) (omega arith)))

pub detail_within : (src cw len : ℕ) → src + cw ≤ len → src ≤ len
detail_within src cw len h = omega arith

pub value_keeps : (l : Layout) → Sound l → (t : ValueInputs) (len : ℕ) → InputsInside t (3 * l.w) l.cw len → Keeps (λ s x. value_at l s t x) (2 * l.w) l.w
value_keeps l o t len b = record { keeps = λ xs ys e x h. value_same l o t xs ys len x b h e.reads }

pub cell_keeps : (l : Layout) → Sound l → (t : ValueInputs) (len : ℕ) (xs ys : List Float) (i : ℕ) (c : ValueCell) → InputsInside t (3 * l.w) l.cw len → i * l.rh + l.rh ≤ l.w → Alike (2 * l.w) xs ys
    → CellGiven l t xs i c → CellGiven l t ys i c
cell_keeps l o t len xs ys i c b h e p = record {
  cells = across_keeps l o t.cells xs ys i c.cells h (alike_from _ _ xs ys e (omega (arith, b.cells.behind))) p.cells;
  slopes = across_keeps l o t.slopes xs ys i c.slopes h (alike_from _ _ xs ys e (omega (arith, b.slopes.behind))) p.slopes;
  least = p.least ∙ sym (e.reads (t.least + i) (omega (arith, b.least.behind)));
  greatest = p.greatest ∙ sym (e.reads (t.greatest + i) (omega (arith, b.greatest.behind)));
}

pub value_within : (l : Layout) (t : ValueInputs) (len : ℕ) → InputsInside t (3 * l.w) l.cw len → 2 * l.w ≤ len
value_within l t len b = omega (arith, b.cells.behind, b.cells.fits)
