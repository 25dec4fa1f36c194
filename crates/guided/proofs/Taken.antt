-- The chroma rows that a picture row takes from: beside its own cell, inside the plane, and no row's before an earlier row's.
-- All of it follows from where taps' spots lie: round the own cell, beside each other, inside, and in the order of the rows (spot-around,
-- -beside, -inside, -ordered).
use Rattle.std.proofs.Common.{◌≡◌, refl, subst, ℕ, ◌+◌, ◌/◌, ◌≤◌, ◌<◌, div-one, mul-le-mul_right, arith}
use lib.Ieee.Nearest.{div_mono}
use Rattle.image.specs.declared.layout.Layout.{Layout}
use Rattle.image.specs.Inner.Tests.{Sound}
use Rattle.image.proofs.Quotients.{cell_inside}
use Rattle.laws.specs.declared.axes.Siting.TheVariants.{Centred}
use Rattle.taps.specs.Taps.{tap_by, tap_of}
use Rattle.taps.proofs.Spots.{spot_around, spot_beside, spot_inside, spot_ordered}
use Rattle.guided.specs.Calls.{top_of, last_of}

-- a row of the picture has its cell inside the plane
pub own_row : (l : Layout) → Sound l → (y : ℕ) → y < l.h → y / l.rv < l.ch
own_row l s y h = rw s.ch_is (cell_inside l.h l.rv y s.rv_some h)

-- and so has a column
pub own_column : (l : Layout) → Sound l → (x : ℕ) → x < l.w → x / l.rh < l.cw
own_column l s x h = rw s.cw_is (cell_inside l.w l.rh x s.rh_some h)

-- the first and the last chroma row of picture row y, as numbers that nothing else need be known of
pub record Taken (l : Layout) (y : ℕ) : Type 0 where
  pub first : (tap_of l.rv l.ch y).i0 ≡ top_of l y
  pub second_low : top_of l y ≤ (tap_of l.rv l.ch y).i1
  pub second_high : (tap_of l.rv l.ch y).i1 ≤ last_of l y
  pub order : top_of l y ≤ last_of l y
  pub near : last_of l y ≤ top_of l y + 1
  pub inside : last_of l y < l.ch
  pub above : top_of l y ≤ y / l.rv
  pub below : y / l.rv ≤ last_of l y

-- a row of the picture has them
pub taken : (l : Layout) → Sound l → (y : ℕ) → y < l.h → Taken l y
unfolding top_of last_of tap_by
taken l s y h =
    let q : y / l.rv < l.ch = own_row l s y h in
    let a = spot_around l.rv l.ch y s.rv_some q in
    let b = spot_beside Centred 1 l.rv l.ch y in
    let c = spot_inside Centred 1 l.rv l.ch y s.ch_some (one q) in
    record {
      first = refl;
      second_low = b.low;
      second_high = omega arith;
      order = omega (arith, b.low);
      near = omega (arith, a.high, b.high);
      inside = omega (arith, c.far);
      above = a.low;
      below = omega arith;
    }
  where
    one : y / l.rv < l.ch → 1 ≡ l.rv → y < l.ch
    one q e = subst (λ (n : ℕ). n < l.ch) (subst (λ (r : ℕ). y / r ≡ y) e (div-one y)) q

-- a later row takes from no earlier rows
pub top_later : (l : Layout) → Sound l → (y z : ℕ) → y ≤ z → top_of l y ≤ top_of l z
unfolding top_of tap_by
top_later l s y z h = (spot_ordered Centred 1 l.rv l.ch y z s.rv_some h).near

pub last_later : (l : Layout) → Sound l → (y z : ℕ) → y ≤ z → last_of l y ≤ last_of l z
unfolding last_of tap_by
last_later l s y z h =
    let a = (spot_ordered Centred 1 l.rv l.ch y z s.rv_some h).far in
    let b = div_mono y l.rv z l.rv s.rv_some s.rv_some (mul-le-mul_right l.rv h) in
    omega arith
