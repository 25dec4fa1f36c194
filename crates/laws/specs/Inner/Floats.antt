-- A float's value against a fraction, multiplied out: near to it, and equal to it. Definitions only.
use Rattle.std.specs.Prelude.{◌≡◌, ℕ, ◌+◌, ◌*◌, ◌≤◌, Float}
use Rattle.std.specs.Float.{nan, inf, fin}
use Rattle.std.specs.Float.Ieee.{up, down}
use Rattle.laws.specs.Floats.{over, under}

-- (P - N) / D and (p - n) / c differ by e / 256 at most, multiplied out
pub record Close (P N D p n c e : ℕ) : Type 0 where
  pub hi : 256 * (P * c + n * D) ≤ 256 * (N * c + p * D) + e * (c * D)
  pub lo : 256 * (N * c + p * D) ≤ 256 * (P * c + n * D) + e * (c * D)

-- the float is finite and within e / 256 of (p - n) / c
abbrev pub NearFraction : Float → ℕ → ℕ → ℕ → ℕ → Type 0
NearFraction nan p n c e = ⊥
NearFraction (inf s) p n c e = ⊥
NearFraction (fin s m x) p n c e = Close (over s (m * up x)) (under s (m * up x)) (down x) p n c e

-- (P - N) / D is (p - n) / c, multiplied out
pub record Same (P N D p n c : ℕ) : Type 0 where
  pub eq : P * c + n * D ≡ N * c + p * D

-- the float is finite and equals (p - n) / c
abbrev pub IsFraction : Float → ℕ → ℕ → ℕ → Type 0
IsFraction nan p n c = ⊥
IsFraction (inf s) p n c = ⊥
IsFraction (fin s m x) p n c = Same (over s (m * up x)) (under s (m * up x)) (down x) p n c
