-- The three kinds of rows are the samples of `triangular_sample`.
use Rattle.std.proofs.Common.{◌≡◌, refl, ◌∙◌, cond, ℕ, ◌+◌, ◌*◌, ◌/◌, eq-eqb, ne_eqb}
use Rattle.image.specs.declared.layout.Layout.{Layout}
use Rattle.image.specs.Samples.{Plane, sample_at}
use Rattle.upsample.specs.Weights.{even, far, weighed, one_axis}
use Rattle.upsample.specs.Triangular.{both_axes, triangular_sample}
use Rattle.upsample.specs.Inner.Pairs.{cells, down_row, across_row}
use Rattle.upsample.proofs.Axis.{one_axis_is}

module _ (l : Layout) (p : Plane) where
  -- the vertical sums of the rows of cells j and k
  abbrev summed : ℕ → ℕ → ℕ → ℕ
  summed j k i = 3 * cells l.sample_bytes p.bytes (j * p.stride) i + cells l.sample_bytes p.bytes (k * p.stride) i

  -- a row of ratio (2,1) is its own far row
  pub across_is : (y : ℕ) → l.rv ≡ 1 → (x : ℕ) → across_row (record { left = 4; right = 8 }) l.cw (summed y y) x ≡ triangular_sample l (sample_at l.sample_bytes p) y x
  unfolding triangular_sample sample_at
  across_is y e x = one_axis_is l.cw (cells l.sample_bytes p.bytes (y * p.stride)) x ∙ rw (eq-eqb l.rv 1 e) refl

  -- f is the far row, and b what is added
  pub down_is : (y : ℕ) → (l.rv ≡ 1 → ⊥) → l.rh ≡ 1 → (f b : ℕ) → f ≡ far l.ch y → b ≡ cond (even y) 1 2 → (x : ℕ) → down_row (summed (y / 2) f) b x ≡ triangular_sample l (sample_at l.sample_bytes p) y x
  unfolding triangular_sample sample_at down_row one_axis weighed
  down_is y n e f b h k x = rw (ne_eqb l.rv 1 n, eq-eqb l.rh 1 e, h, k) refl

  pub both_is : (y : ℕ) → (l.rv ≡ 1 → ⊥) → (l.rh ≡ 1 → ⊥) → (f : ℕ) → f ≡ far l.ch y → (x : ℕ) → across_row (record { left = 8; right = 7 }) l.cw (summed (y / 2) f) x ≡ triangular_sample l (sample_at l.sample_bytes p) y x
  unfolding triangular_sample sample_at across_row both_axes weighed
  both_is y n e f h x = rw (ne_eqb l.rv 1 n, ne_eqb l.rh 1 e, h) refl
