-- A vector's lanes as a table, and a fact of each of them.
use Rattle.std.proofs.Common.{◌≡◌, sym, subst, ◌∙◌, ℕ, ◌<◌, List, length, get_or, arith, ext_get_or}
use Rattle.std.proofs.lemmas.Simd.{Each1-from_get_or}
use lib.Lanes.{Each1}
use Rattle.laws.specs.Lists.{table}
use Rattle.laws.proofs.Lists.{length_table, table_at}

module _ {A : Type 0} where
  pub each_lane : (P : A → Type 0) (d : A) (n : ℕ) (f : ℕ → A) → ((k : ℕ) → k < n → P (f k)) → Each1 P (table n f)
  each_lane P d n f h =
      Each1-from_get_or P (table n f) d (λ k l. let q : k < n = subst (λ (m : ℕ). k < m) (length_table n f) l in subst P (sym (table_at n f k d q)) (h k q))

  -- a list of n values is the table of its entries
  pub gathered : (n : ℕ) (xs : List A) (f : ℕ → A) (d : A) → length xs ≡ n → ((k : ℕ) → k < n → get_or xs k d ≡ f k) → xs ≡ table n f
  gathered n xs f d l h = ext_get_or d xs (table n f) (l ∙ sym (length_table n f)) (λ k q. h k (omega (arith, l, q)) ∙ sym (table_at n f k d (omega (arith, l, q))))
