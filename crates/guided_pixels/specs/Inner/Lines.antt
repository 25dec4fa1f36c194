-- A row of pixels that is written while what it is made of lies behind it, whatever it is a row of. Definitions only.
use Rattle.std.specs.Prelude.{◌≡◌, List, ℕ, ◌+◌, ◌≤◌, ◌<◌, Float, get_or}
use Rattle.std.specs.Float.{nan}
use Rattle.laws.specs.Lists.{put}

-- what two lists hold from `low` on is the same
pub record Alike (low : ℕ) (xs ys : List Float) : Type 0 where
  pub reads : (q : ℕ) → low ≤ q → get_or ys q nan ≡ get_or xs q nan

-- the values in w columns are made of what lies from `low` on
pub record Keeps (f : List Float → ℕ → Float) (low w : ℕ) : Type 0 where
  pub keeps : (xs ys : List Float) → Alike low xs ys → (x : ℕ) → x < w → f ys x ≡ f xs x

-- the values in columns from, .. from + n - 1, put at dst + from
unfoldable pub line_run : (List Float → ℕ → Float) → ℕ → ℕ → ℕ → List Float → List Float
line_run f dst from n s = put s (dst + from) n (λ i. f s (from + i))
