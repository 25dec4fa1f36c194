-- What is claimed of linear floats: within a sixteenth of the exact value at every layout that no call refuses, equal to it at denominators 1, 2 and 4, between its
-- cells, and the same in either range.
use Rattle.std.proofs.Common.{◌≡◌, refl, false, ℕ, ◌≤◌, ◌<◌, mul-pos, Ok}
use Rattle.laws.specs.Refusals.{first}
use Rattle.laws.specs.Inner.Floats.{NearFraction}
use Rattle.laws.proofs.Refusals.{accepted_failed}
use Rattle.laws.proofs.Nearness.{near_is}
use Rattle.image.specs.declared.layout.Layout.{Layout}
use Rattle.image.specs.Tests.{tests_for}
use Rattle.image.specs.Picture.{ranged}
use Rattle.image.specs.Inner.Tests.{Shaped}
use Rattle.image.proofs.Layouts.{shaped}
use Rattle.taps.specs.Taps.{tap_by}
use Rattle.linear.specs.Linear.{linear_sample, linear_down}
use Rattle.linear.specs.Bound.{LinearClaims, OneTwoFour, row_spot, column_spot, row_position, column_position, exact_num, exact_den}
use Rattle.taps.proofs.Spots.{spot_valid, own_cell}
use Rattle.linear.proofs.Bound.{spot_num, spot_den, bilinear_near}
use Rattle.linear.proofs.Positions.{position_near, placed_some, sixteenth}
use Rattle.linear.proofs.Exact.{bilinear_exact, ratio_binary, near_equals, rounded_exact}
use Rattle.linear.proofs.Span.{bilinear_between}

-- a layout that no linear call refuses, cells up to 65,535, and an output inside it
module _ (l : Layout) (a : first (tests_for false false l) ≡ Ok tt) (c : ℕ → ℕ → ℕ) (b : (j i : ℕ) → c j i ≤ 65535) (y x : ℕ) (Y : y < l.h) (X : x < l.w) where
  o : Shaped l
  o = shaped false false l (accepted_failed (tests_for false false l) a)

  -- what is near the value by the output's spots is as near the value by its positions
  placed : (e : ℕ) → NearFraction (linear_sample l c y x) (spot_num c (row_spot l y) (column_spot l x)) 0 (spot_den (row_spot l y) (column_spot l x)) e
      → NearFraction (linear_sample l c y x) (exact_num c (row_position l y) (column_position l x)) 0 (exact_den (row_position l y) (column_position l x)) e
  placed e g = position_near c l.down l.across l.rv l.ch y l.rh l.cw x o.rv_some o.ch_some (own_cell l.down.num l.rv l.h l.ch y o.rv_some o.lines Y) o.rh_some o.cw_some (own_cell l.across.num l.rh l.w l.cw x o.rh_some o.cells X) (linear_sample l c y x) e g

  within_16 : NearFraction (linear_sample l c y x) (exact_num c (row_position l y) (column_position l x)) 0 (exact_den (row_position l y) (column_position l x)) 16
  unfolding linear_sample linear_down tap_by
  within_16 = placed 16 (bilinear_near c b (row_spot l y) (column_spot l x) (spot_valid l.down.siting l.down.num l.rv l.ch y (o.rv_some, o.rv_most)) (spot_valid l.across.siting l.across.num l.rh l.cw x (o.rh_some, o.rh_most)))

  within_0 : OneTwoFour l.rv → OneTwoFour l.rh → NearFraction (linear_sample l c y x) (exact_num c (row_position l y) (column_position l x)) 0 (exact_den (row_position l y) (column_position l x)) 0
  unfolding linear_sample linear_down tap_by
  within_0 v h = placed 0 (bilinear_exact c b (row_spot l y) (column_spot l x) (ratio_binary l.down.siting l.down.num l.rv l.ch y v) (ratio_binary l.across.siting l.across.num l.rh l.cw x h))

  den_some : 0 < exact_den (row_position l y) (column_position l x)
  den_some = mul-pos (placed_some l.down.siting l.down.num l.rv l.ch y o.rv_some) (placed_some l.across.siting l.across.num l.rh l.cw x o.rh_some)

pub claims : LinearClaims
unfolding linear_sample linear_down tap_by ranged
claims =
    record {
      within = λ l a c b y x Y X. sixteenth (linear_sample l c y x) (exact_num c (row_position l y) (column_position l x)) (exact_den (row_position l y) (column_position l x)) (within_16 l a c b y x Y X);
      exact = λ l a v h c b y x Y X. near_equals (linear_sample l c y x) (exact_num c (row_position l y) (column_position l x)) (exact_den (row_position l y) (column_position l x)) (within_0 l a c b y x Y X v h);
      rounded = λ l a v h c b y x Y X.
          let num = exact_num c (row_position l y) (column_position l x) in
          let den = exact_den (row_position l y) (column_position l x) in
          rounded_exact (linear_sample l c y x) num den l.maxval (den_some l a c b y x Y X) (near_is (linear_sample l c y x) num 0 den (within_0 l a c b y x Y X v h));
      spanned = λ l c h v y x lo hi t s. bilinear_between c (row_spot l y) (column_spot l x) (spot_valid l.down.siting l.down.num l.rv l.ch y v) (spot_valid l.across.siting l.across.num l.rh l.cw x h) lo hi t s;
      range_free = λ range l c y x. refl;
    }
