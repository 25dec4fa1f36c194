-- The laws of what is summed, cells and products of cells, which the trait asks of each. Proofs only.
use Rattle.std.proofs.Common.{◌≡◌, ℕ, ◌+◌, ◌≤◌, List, Float, get_or, refl, arith}
use Rattle.std.specs.Float.{nan}
use Rattle.guided_across.specs.Inner.Sums.{cells_at, products_at, Behind}

pub fewer_cells : (src n k at to : ℕ) → src + n ≤ at → k ≤ n → at ≤ to → src + k ≤ to
fewer_cells src n k at to h p q = omega arith

pub behind_cells : (src n dst : ℕ) → src + n ≤ dst → Behind (cells_at src) n dst
behind_cells src n dst h = record { keeps = λ xs ys e i l. e (src + i) (omega arith) }

pub behind_products : (a b n dst : ℕ) → a + n ≤ dst → b + n ≤ dst → Behind (products_at a b) n dst
behind_products a b n dst h k = record { keeps = λ xs ys e i l. alike xs ys i (e (a + i) (omega arith)) (e (b + i) (omega arith)) }
  where
    alike : (xs ys : List Float) (i : ℕ) → get_or ys (a + i) nan ≡ get_or xs (a + i) nan → get_or ys (b + i) nan ≡ get_or xs (b + i) nan → products_at a b ys i ≡ products_at a b xs i
    alike xs ys i p q = rw (p, q) refl
