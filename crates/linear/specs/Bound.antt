-- What is claimed of linear floats: "Its float lies within 1/16 of the exact bilinear value, a fraction of whole numbers, for samples up to 65,535"; that it
-- is that value where both denominators are 1, 2 or 4 (W5); and that it never leaves the span of its cells. Statements only.
use Rattle.std.specs.Prelude.{◌≡◌, ◌⊎◌, false, ℕ, ◌+◌, ◌-◌, ◌*◌, ◌/◌, ◌%◌, ◌≤◌, ◌<◌, min, T, Float, Ok}
use Rattle.std.specs.Float.{nan, inf, fin}
use Rattle.std.specs.Float.Ieee.{up, down, le}
use Rattle.laws.specs.declared.axes.Siting.{Siting}
use Rattle.laws.specs.declared.axes.Siting.TheVariants.{Centred, CoSited}
use Rattle.laws.specs.Floats.{f32, over, under}
use Rattle.laws.specs.Refusals.{first}
use Rattle.laws.specs.Rounding.{half_up}
use Rattle.image.specs.declared.layout.Layout.{Layout}
use Rattle.image.specs.declared.layout.Range.{Range}
use Rattle.image.specs.Tests.{tests_for}
use Rattle.image.specs.Picture.{ranged}
use Rattle.fround.specs.Rounding.{round_clamped}
use Rattle.taps.specs.Taps.{Spot, spot_of}
use Rattle.linear.specs.Linear.{linear_sample}

-- ---- the exact bilinear value

-- a place among the cells of an axis: p / q, where cell i lies at i
pub record Position : Type 0 where
  pub p : ℕ
  pub q : ℕ

-- "A centred output sits at ((2o+1)·num − den)/(2·den)"; "Below 0 it takes cell 0, at or past the last cell it takes the last": that over len cells, limited to
-- 0 .. len − 1. At numerator 1 it is document 01's "u = (2o+1−r)/(2r)"
unfoldable pub centred_at : ℕ → ℕ → ℕ → ℕ → Position
centred_at num den len o = record { p = min ((2 * o + 1) * num - den) ((len - 1) * (2 * den)); q = 2 * den }

-- "a co-sited one at o·num/den", "with the same edge rule": likewise limited to 0 .. len − 1
unfoldable pub co_sited_at : ℕ → ℕ → ℕ → ℕ → Position
co_sited_at num den len o = record { p = min (o * num) ((len - 1) * den); q = den }

-- "a siting for each axis, centred or co-sited"
abbrev pub placed_at : Siting → ℕ → ℕ → ℕ → ℕ → Position
placed_at Centred num den len o = centred_at num den len o
placed_at CoSited num den len o = co_sited_at num den len o

-- the exact value at p / q, where f is the value of each cell, is exact_between / q: rest = p mod q parts of q of the next cell, and the other q − rest of the cell at or before it
abbrev pub exact_between : Position → (ℕ → ℕ) → ℕ
exact_between s f = (s.q - s.p % s.q) * f (s.p / s.q) + s.p % s.q * f (s.p / s.q + 1)

-- "the exact bilinear value, a fraction of whole numbers", is exact_num / exact_den: down by v, then across by h, where c j i is cell i of row j
abbrev pub exact_num : (ℕ → ℕ → ℕ) → Position → Position → ℕ
exact_num c v h = exact_between h (λ i. exact_between v (λ j. c j i))

abbrev pub exact_den : Position → Position → ℕ
exact_den v h = v.q * h.q

-- the place of row y down and of column x across
abbrev pub row_position : Layout → ℕ → Position
row_position l y = placed_at l.down.siting l.down.num l.rv l.ch y

abbrev pub column_position : Layout → ℕ → Position
column_position l x = placed_at l.across.siting l.across.num l.rh l.cw x

-- (P − N) / D and num / den differ by a sixteenth at most, multiplied out
pub record SixteenthApart (P N D num den : ℕ) : Type 0 where
  pub above : 16 * (P * den) ≤ 16 * (N * den + num * D) + D * den
  pub below : 16 * (N * den + num * D) ≤ 16 * (P * den) + D * den

-- "Its float lies within 1/16": the float is finite, and within a sixteenth of num / den
abbrev pub Sixteenth : Float → ℕ → ℕ → Type 0
Sixteenth nan num den = ⊥
Sixteenth (inf s) num den = ⊥
Sixteenth (fin s m e) num den = SixteenthApart (over s (m * up e)) (under s (m * up e)) (down e) num den

-- ---- no slack

-- "When both ratios are 1, 2 or 4": of a pair num over den it is den that counts
abbrev pub OneTwoFour : ℕ → Type 0
OneTwoFour r = (r ≡ 1) ⊎ ((r ≡ 2) ⊎ (r ≡ 4))

-- "the linear float equals the exact bilinear value": the float is finite, and it is num / den, multiplied out
abbrev pub Equals : Float → ℕ → ℕ → Type 0
Equals nan num den = ⊥
Equals (inf s) num den = ⊥
Equals (fin s m e) num den = over s (m * up e) * den ≡ under s (m * up e) * den + num * down e

-- ---- the span

abbrev pub row_spot : Layout → ℕ → Spot
row_spot l y = spot_of l.down.siting l.down.num l.rv l.ch y

abbrev pub column_spot : Layout → ℕ → Spot
column_spot l x = spot_of l.across.siting l.across.num l.rh l.cw x

-- all four cells of the value lie between lo and hi; a field's first word is of the cell's row, its second of the column
pub record Spanned (c : ℕ → ℕ → ℕ) (v h : Spot) (lo hi : ℕ) : Type 0 where
  pub near_near : (lo ≤ c v.near h.near) × (c v.near h.near ≤ hi)
  pub far_near : (lo ≤ c v.far h.near) × (c v.far h.near ≤ hi)
  pub near_far : (lo ≤ c v.near h.far) × (c v.near h.far ≤ hi)
  pub far_far : (lo ≤ c v.far h.far) × (c v.far h.far ≤ hi)

-- ---- the claims

pub record LinearClaims : Type 0 where
  -- at every row and column of a layout that no linear call refuses, whatever its axes ("The 1/16 bound holds for both" sitings and "covers all
  -- pairs"), for samples up to 65,535
  pub within : (l : Layout) → first (tests_for false false l) ≡ Ok tt → (c : ℕ → ℕ → ℕ) → ((j i : ℕ) → c j i ≤ 65535) → (y x : ℕ) → y < l.h → x < l.w
      → Sixteenth (linear_sample l c y x) (exact_num c (row_position l y) (column_position l x)) (exact_den (row_position l y) (column_position l x))
  -- "When both ratios are 1, 2 or 4, the linear float equals the exact bilinear value, for samples up to 65,535 and either siting", at any numerator
  pub exact : (l : Layout) → first (tests_for false false l) ≡ Ok tt → OneTwoFour l.rv → OneTwoFour l.rh → (c : ℕ → ℕ → ℕ) → ((j i : ℕ) → c j i ≤ 65535) → (y x : ℕ) → y < l.h → x < l.w
      → Equals (linear_sample l c y x) (exact_num c (row_position l y) (column_position l x)) (exact_den (row_position l y) (column_position l x))
  -- "and the rounded sample is that value with halves up, limited to maxval"
  pub rounded : (l : Layout) → first (tests_for false false l) ≡ Ok tt → OneTwoFour l.rv → OneTwoFour l.rh → (c : ℕ → ℕ → ℕ) → ((j i : ℕ) → c j i ≤ 65535) → (y x : ℕ) → y < l.h → x < l.w
      → round_clamped l.maxval (linear_sample l c y x) ≡ min l.maxval (half_up (exact_num c (row_position l y) (column_position l x)) (exact_den (row_position l y) (column_position l x)))
  -- the float lies between any two whole numbers that its four cells lie between, denominators 1 to 4
  pub spanned : (l : Layout) (c : ℕ → ℕ → ℕ) → (0 < l.rh) × (l.rh ≤ 4) → (0 < l.rv) × (l.rv ≤ 4) → (y x lo hi : ℕ) → hi ≤ 65535
      → Spanned c (row_spot l y) (column_spot l x) lo hi → T (le (f32 lo) (linear_sample l c y x)) × T (le (linear_sample l c y x) (f32 hi))
  -- "Reconstructed samples don't depend on the range"
  pub range_free : (range : Range) (l : Layout) (c : ℕ → ℕ → ℕ) (y x : ℕ) → linear_sample (ranged range l) c y x ≡ linear_sample l c y x
