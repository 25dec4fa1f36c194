-- What is stored of a finished row. Definitions only.
use Rattle.std.specs.Prelude.{List, ℕ, Float}
use Rattle.laws.specs.Lists.{put}
use Rattle.image.specs.Scratch.{cell_at}
use Rattle.fround.specs.Rounding.{round_clamped}

-- n values of s from src on, rounded and limited to 0 .. limit, put into out
unfoldable pub store_run : List Float → ℕ → ℕ → ℕ → ℕ → List ℕ → List ℕ
store_run s src n limit at out = put out at n (λ i. round_clamped limit (cell_at s src i))
