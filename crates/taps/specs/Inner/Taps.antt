-- What `tap_at` promises beside the tap: that its cells are among those there are. Definitions only.
use Rattle.std.specs.Prelude.{◌≡◌, ℕ, ◌<◌}
use Rattle.laws.specs.declared.axes.Axis.{Axis}
use Rattle.taps.specs.declared.positions.Tap.{Tap}
use Rattle.taps.specs.Taps.{tap_by}

-- what `tap_at` promises: the tap, and that its cells are among the len
pub record TapGiven (a : Axis) (r len o : ℕ) (t : Tap) : Type 0 where
  pub is : t ≡ tap_by a r len o
  pub i0_inside : t.i0 < len
  pub i1_inside : t.i1 < len
