-- What the loops behind 17's test find. Definitions only.
use Rattle.std.specs.Prelude.{ℕ, zero, suc, max}

-- the greatest of f 0 .. f (n - 1); 0 where there is none
unfoldable pub greatest : ℕ → (ℕ → ℕ) → ℕ
greatest zero f = 0
greatest (suc n) f = max (greatest n f) (f n)
