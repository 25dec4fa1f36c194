-- Whole numbers as differences of two natural numbers, which `omega` reads: the bridge between ℤ and ℕ. Definitions only.
use Rattle.std.specs.Prelude.{◌≡◌, ℕ, suc, ◌+◌, ℤ, pos, negsuc}

-- z is a - b, as an equation of natural numbers for each sign
abbrev pub Off : ℤ → ℕ → ℕ → Type 0
Off (pos n) a b = a ≡ n + b
Off (negsuc n) a b = a + suc n ≡ b

-- z is a - b, kept shut so that a proof carries the difference and not its two cases
pub record Diff (z : ℤ) (a b : ℕ) : Type 0 where
  pub is : Off z a b
