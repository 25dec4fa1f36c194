-- 'Geometry' of document 01's chroma row: where an output sits among the cells, its tap, a pixel's phase, and lerp; and document 02's co-sited outputs
-- (W2)
-- and ratios that aren't whole (W11). Definitions only.
use Rattle.std.specs.Prelude.{Bool, true, false, List, [], ◌∷◌, ℕ, ◌+◌, ◌-◌, ◌*◌, ◌/◌, ◌%◌, ltb, leb, eqb, Float}
use Rattle.std.specs.Float.{binary32}
use Rattle.std.specs.Float.Ieee.{add, sub, mul, div}
use Rattle.laws.specs.Floats.{f32}
use Rattle.laws.specs.Axes.{plain}
use Rattle.laws.specs.declared.axes.Siting.{Siting}
use Rattle.laws.specs.declared.axes.Siting.TheVariants.{Centred, CoSited}
use Rattle.laws.specs.declared.axes.Axis.{Axis}
use Rattle.taps.specs.declared.positions.Tap.{Tap}
use Rattle.taps.specs.declared.phases.Phase.{Phase}

-- "lerp(a,b,f) = a + f·(b−a), three roundings"
abbrev pub lerp_of : Float → Float → Float → Float
lerp_of a b f = add binary32 a (mul binary32 f (sub binary32 b a))

-- "as f32 (numerator over denominator, one division)"
abbrev pub fraction_of : ℕ → ℕ → Float
fraction_of k d = div binary32 (f32 k) (f32 d)

-- a place between the cells near and far, k / d of the way, in whole numbers
pub record Spot : Type 0 where
  pub near : ℕ
  pub far : ℕ
  pub k : ℕ
  pub d : ℕ

abbrev pub pick_spot : Bool → Spot → Spot → Spot
pick_spot true a b = a
pick_spot false a b = b

-- cell i itself, fraction 0
abbrev pub on_cell : ℕ → Spot
on_cell i = record { near = i; far = i; k = 0; d = 1 }

-- u = m / d: "at or past the last cell it takes the last, fraction 0. Otherwise it takes floor(u), the next cell, and the rest of u"
unfoldable pub spot_at : ℕ → ℕ → ℕ → Spot
spot_at m d len = pick_spot (leb (len - 1) (m / d)) (on_cell (len - 1)) (record { near = m / d; far = m / d + 1; k = m % d; d = d })

-- output o over len cells, num cells to den outputs: "A centred output sits at ((2o+1)·num − den)/(2·den), a co-sited one at o·num/den"; centred, "Below 0 it
-- takes cell 0". "Whole ratios are the case of numerator 1"
unfoldable pub sited_at : Siting → ℕ → ℕ → ℕ → ℕ → Spot
sited_at Centred num den len o =
    pick_spot (ltb ((2 * o + 1) * num) den) (on_cell 0)
    (spot_at ((2 * o + 1) * num - den) (2 * den) len)
sited_at CoSited num den len o = spot_at (o * num) den len

-- "Ratio 1 gives cell o", by either siting, and so does any pair of equal numbers
unfoldable pub spot_of : Siting → ℕ → ℕ → ℕ → ℕ → Spot
spot_of siting num den len o = pick_spot (eqb num den) (on_cell o) (sited_at siting num den len o)

-- "A tap is two indices and a fraction"
abbrev pub tap_on : Spot → Tap
tap_on s = record { i0 = s.near; i1 = s.far; f = fraction_of s.k s.d }

-- the tap of output o over len cells at ratio r, by the axis
unfoldable pub tap_by : Axis → ℕ → ℕ → ℕ → Tap
tap_by a r len o = tap_on (spot_of a.siting a.num r len o)

-- centred, as document 01 has it
abbrev pub tap_of : ℕ → ℕ → ℕ → Tap
tap_of r len o = tap_by plain r len o

abbrev pub pick_phase : Bool → Phase → Phase → Phase
pick_phase true a b = a
pick_phase false a b = b

-- "Within a cell, pixel k has n = 2k+1−r over 2r. For n below 0 it goes from the left neighbour with fraction (n+2r)/(2r),
-- otherwise from its own cell to the right one with n/(2r)."
unfoldable pub phase_of : ℕ → ℕ → Phase
phase_of r k =
    pick_phase (ltb (2 * k + 1) r) (record { left = true; f = fraction_of (2 * k + 1 + r) (2 * r) })
    (record { left = false; f = fraction_of (2 * k + 1 - r) (2 * r) })

-- "The geometry keeps the phase fractions of its ratio, four at most": those past the ratio are not left, 0
unfoldable pub phase_at : ℕ → ℕ → Phase
phase_at r k = pick_phase (leb r k) (record { left = false; f = f32 0 }) (phase_of r k)

unfoldable pub phases_of : ℕ → List Phase
phases_of r = phase_at r 0 ∷ phase_at r 1 ∷ phase_at r 2 ∷ phase_at r 3 ∷ []
