-- Lists as the lanes of a vector: a run of a list, and a list whose entries are known.
use Rattle.std.proofs.Common.{◌≡◌, refl, sym, ◌∙◌, ℕ, zero, suc, ◌+◌, ◌≤◌, ◌<◌, ext_get_or, List, length, get_or, drop, arith, Float, take-suc, get_or-drop, length-drop}
use lib.Lanes.{chunk}
use Rattle.std.specs.Float.{nan}
use Rattle.laws.specs.Lists.{table}
use Rattle.laws.proofs.Lists.{length_table, table_at}

pub loaded : (n at : ℕ) (s : List Float) → at + n ≤ length s → chunk at n s ≡ table n (λ k. get_or s (at + k) nan)
unfolding table
loaded zero at s h = refl
loaded (suc n) at s h = take-suc (drop at s) n nan (rw (length-drop at s) (omega arith)) ∙ rw (loaded n at s (omega arith), get_or-drop at s n nan) refl

-- a list of n values, each of which is known
pub gathered : (n : ℕ) (xs : List Float) (f : ℕ → Float) → length xs ≡ n → ((k : ℕ) → k < n → get_or xs k nan ≡ f k) → xs ≡ table n f
gathered n xs f l h = ext_get_or nan xs (table n f) (l ∙ sym (length_table n f)) (λ k q. h k (omega (arith, l, q)) ∙ sym (table_at n f k nan (omega (arith, l, q))))
