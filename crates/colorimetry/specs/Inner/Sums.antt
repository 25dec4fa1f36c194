-- The sums of the channels as the loops form them, over bytes. Definitions only.
use Rattle.std.specs.Prelude.{◌≡◌, List, ℕ, ◌+◌, ◌*◌, ◌≤◌, ◌<◌, get_or}
use Rattle.laws.specs.Sums.{sum_to}
use Rattle.colorimetry.specs.declared.sums.Sums.{Sums}

-- channel k of the n pixels from byte `at` on
unfoldable pub row_sum : List ℕ → ℕ → ℕ → ℕ → ℕ
row_sum rgb at n k = sum_to n (λ i. get_or rgb (at + 3 * i + k) 0)

-- channel k of m such rows, `pitch` bytes apart
unfoldable pub area_sum : List ℕ → ℕ → ℕ → ℕ → ℕ → ℕ → ℕ
area_sum rgb at pitch n m k = sum_to m (λ j. row_sum rgb (at + j * pitch) n k)

-- every row of the area ends within the bytes
unfoldable pub Inside : ℕ → ℕ → ℕ → ℕ → ℕ → Type 0
Inside len at pitch n m = (j : ℕ) → j < m → at + j * pitch + 3 * n ≤ len

-- none of the three is more than `most`
pub record SumsMost (most : ℕ) (s : Sums) : Type 0 where
  pub red : s.r ≤ most
  pub green : s.g ≤ most
  pub blue : s.b ≤ most

-- they are f's values for the channels
pub record Totals (f : ℕ → ℕ) (most : ℕ) (s : Sums) : Type 0 where
  pub red : s.r ≡ f 0
  pub green : s.g ≡ f 1
  pub blue : s.b ≡ f 2
  pub small : SumsMost most s
