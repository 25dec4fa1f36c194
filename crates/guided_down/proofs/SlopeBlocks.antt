-- Slopes of eight cells as vectors: the lanes are what slopes has for each cell, since the steps are the same and only the places are said otherwise.
use Rattle.std.proofs.Common.{◌≡◌, refl, ℕ, ◌+◌, ◌-◌, ◌<◌, List, arith, get_or, Float}
use lib.Ieee.{nan}
use Rattle.laws.specs.Floats.{f32, ◌⊕◌, ◌⊗◌, ◌⊘◌}
use Rattle.laws.specs.Lists.{table}
use Rattle.laws.proofs.Lists.{table_same}
use Rattle.guided_window.specs.declared.buffers.Window.{Window}
use Rattle.guided_down.specs.Inner.Slopes.{mean_at, sum_inside}

-- three neighbours of the cells from i on
pub sums_are : (s : List Float) (src i : ℕ) → 0 < i → table 8 (λ k. get_or s (src + (i - 1) + k) nan ⊕ get_or s (src + i + k) nan ⊕ get_or s (src + (i + 1) + k) nan) ≡ table 8 (λ k. sum_inside s src (i + k))
unfolding sum_inside
sums_are s src i o = table_same 8 _ _ (λ k h. let a : src + (i - 1) + k ≡ src + (i + k - 1) = omega arith in let b : src + i + k ≡ src + (i + k) = omega arith in let c : src + (i + 1) + k ≡ src + (i + k + 1) = omega arith in rw (a, b, c) refl)

pub means_are : (s : List Float) (t : Window) (i : ℕ) → table 8 (λ k. (get_or s (t.up + i + k) nan ⊕ get_or s (t.at + i + k) nan ⊕ get_or s (t.down + i + k) nan) ⊗ (f32 1 ⊘ f32 9)) ≡ table 8 (λ k. mean_at s t (i + k))
unfolding mean_at
means_are s t i = table_same 8 _ _ (λ k h. let a : t.up + i + k ≡ t.up + (i + k) = omega arith in let b : t.at + i + k ≡ t.at + (i + k) = omega arith in let c : t.down + i + k ≡ t.down + (i + k) = omega arith in rw (a, b, c) refl)
