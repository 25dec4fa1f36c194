-- Three by three cells: a number from its three neighbours, whatever is made of them.
use Rattle.std.proofs.Common.{◌≡◌, refl, sym, ◌∙◌, ℕ, ◌+◌, ◌-◌, min}
use Rattle.guided.specs.Events.{three_n}

pub three_of : (op : ℕ → ℕ → ℕ) (n : ℕ) (g : ℕ → ℕ) (i l r a b c v : ℕ) → l ≡ i - 1 → r ≡ min (i + 1) (n - 1) → a ≡ g l → b ≡ g i → c ≡ g r → v ≡ op (op a b) c → v ≡ three_n op n g i
unfolding three_n
three_of op n g i l r a b c v p q x y z f = rw (sym p, sym q) (f ∙ rw (x, y, z) refl)
