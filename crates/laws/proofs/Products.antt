-- A product tested by a division: n / b < a says that n < a * b.
use Rattle.std.proofs.Common.{◌≡◌, refl, sym, Bool, true, false, ℕ, ◌*◌, ◌/◌, ◌≤◌, ◌<◌, mul-zero, div-lt_iff_lt-mul, le-div_iff_mul-le, arith, ltb, lt-ltb, le-ltb, ltb-true, ltb-false}

-- tests that follow from each other are equal
pub same_test : (a b c d : ℕ) → (a < b → c < d) → (b ≤ a → d ≤ c) → ltb a b ≡ ltb c d
same_test a b c d f g = go (ltb a b) (ltb-true a b) (ltb-false a b)
  where
    go : (t : Bool) → (t ≡ true → a < b) → (t ≡ false → b ≤ a) → t ≡ ltb c d
    go true y z = sym (lt-ltb c d (f (y refl)))
    go false y z = sym (le-ltb c d (g (z refl)))

pub divided : (a b n : ℕ) → 0 < b → ltb (n / b) a ≡ ltb n (a * b)
divided a b n p = same_test (n / b) a n (a * b) (div-lt_iff_lt-mul p).0 (le-div_iff_mul-le p).0

-- a product by 0 passes nothing
pub divided_zero : (a b n : ℕ) → b ≡ 0 → false ≡ ltb n (a * b)
divided_zero a b n e = sym (le-ltb n (a * b) (rw (e, mul-zero) (omega arith)))
