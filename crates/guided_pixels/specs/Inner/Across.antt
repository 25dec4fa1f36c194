-- Cells lerped across, as the inner functions' contracts say it. Definitions only.
use Rattle.std.specs.Prelude.{cond, ℕ, ◌+◌, ◌-◌, ◌*◌, min, Float}
use Rattle.taps.specs.declared.phases.Phase.{Phase}
use Rattle.taps.specs.Taps.{lerp_of, fraction_of}
use Rattle.laws.specs.Lists.{table}
use Rattle.guided_pixels.specs.declared.pairs.Pairs.{Pairs}

-- cell i of the n cells g, lerped across by a phase
unfoldable pub phased : (ℕ → Float) → ℕ → Phase → ℕ → Float
phased g n p i = cond p.left (lerp_of (g (i - 1)) (g i) p.f) (lerp_of (g i) (g (min (i + 1) (n - 1))) p.f)

-- the two pixels of cell i + 1 at ratio 2, where no edge is met
unfoldable pub left_of : (ℕ → Float) → ℕ → Float
left_of g i = lerp_of (g i) (g (i + 1)) (fraction_of 3 4)

unfoldable pub right_of : (ℕ → Float) → ℕ → Float
right_of g i = lerp_of (g (i + 1)) (g (i + 2)) (fraction_of 1 4)

-- those of eight cells, from cell i + 1 on
unfoldable pub pairs_of : (ℕ → Float) → ℕ → Pairs
pairs_of g i = record { left = table 8 (λ k. left_of g (i + k)); right = table 8 (λ k. right_of g (i + k)) }

-- these pixels of a row f
unfoldable pub pixel_pairs : (ℕ → Float) → ℕ → Pairs
pixel_pairs f i = record { left = table 8 (λ k. f (2 + 2 * (i + k))); right = table 8 (λ k. f (2 + (2 * (i + k) + 1))) }
