-- Searches for the first among the least, as the loops' contracts say them. Definitions only.
use Rattle.std.specs.Prelude.{◌≡◌, List, ℕ, get_or}
use Rattle.colorimetry.specs.ChartClaims.{FirstLeast}

-- channel k of a colour
abbrev pub channel : List ℕ → ℕ → ℕ
channel colour k = get_or colour k 0

-- r is the first among the least of d 0, .. d (n - 1), and off is d r
pub record Least (d : ℕ → ℕ) (n r off : ℕ) : Type 0 where
  pub first : FirstLeast d n r
  pub is : off ≡ d r
