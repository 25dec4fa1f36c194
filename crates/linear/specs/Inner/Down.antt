-- The cells of a linear row, lerped down over lent scratch, as the contract says them. Definitions only.
use Rattle.std.specs.Prelude.{List, ℕ, ◌+◌, ◌*◌, Float}
use Rattle.laws.specs.Floats.{f32}
use Rattle.laws.specs.Lists.{put}
use Rattle.image.specs.Samples.{sample_of}
use Rattle.taps.specs.Taps.{lerp_of}

-- sample i of the two rows of a plane that begin at a and b, lerped by f
abbrev pub down_at : List ℕ → ℕ → ℕ → ℕ → Float → ℕ → Float
down_at plane bytes a b f i = lerp_of (f32 (sample_of bytes plane (a + i * bytes))) (f32 (sample_of bytes plane (b + i * bytes))) f

-- the first n samples of the two rows, lerped by f, put at dst
unfoldable pub down_run : List ℕ → ℕ → ℕ → ℕ → Float → ℕ → ℕ → List Float → List Float
down_run plane bytes a b f n dst s = put s dst n (down_at plane bytes a b f)
