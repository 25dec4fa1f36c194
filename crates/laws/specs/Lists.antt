-- What a lent slice holds after a run of it was written. Definitions only.
use Rattle.std.specs.Prelude.{ℕ, zero, suc, ◌+◌, ◌*◌, List, [], ◌∷◌, ◌++◌, set}

module _ {A : Type 0} where
  -- xs after `for i in 0..n { xs[at + i] = f(i) }`
  unfoldable pub put : List A → ℕ → ℕ → (ℕ → A) → List A
  put xs at zero f = xs
  put xs at (suc n) f = set (put xs at n f) (at + n) (f n)

  -- xs after `for y in 0..n { for x in 0..w { xs[y * w + x] = f(y)(x) } }`
  unfoldable pub rows : List A → ℕ → ℕ → (ℕ → ℕ → A) → List A
  unfolding put
  rows xs w zero f = xs
  rows xs w (suc n) f = put (rows xs w n f) (n * w) w (f n)

  -- the list f(0), .. f(n - 1)
  unfoldable pub table : ℕ → (ℕ → A) → List A
  table zero f = []
  table (suc n) f = table n f ++ (f n ∷ [])
