-- Cells of bytes by sixteens: their sums row by row, and a block more, which may overlap those before.
use Rattle.std.proofs.Common.{◌≡◌, refl, ap, ◌∙◌, List, ℕ, ◌+◌, ◌*◌, ◌≤◌, ◌<◌, add-one, arith, get_or, replicate, Float}
use Rattle.std.proofs.lemmas.List.{get_or-replicate}
use lib.Ieee.{nan}
use Rattle.laws.specs.Floats.{f32, ◌⊘◌}
use Rattle.laws.specs.Lists.{put}
use Rattle.laws.proofs.Lists.{put_same}
use Rattle.laws.specs.Sums.{sum_to}
use Rattle.guided_across.specs.Inner.ByteCells.{pair_sum, pairs_sum, cell_mean}
use Rattle.laws.proofs.Sums.{sum_same}

-- ---- sums

-- a block has the sums of sixteen cells of dy rows
abbrev pub Sums : List ℕ → ℕ → ℕ → ℕ → List ℕ → Type 0
Sums plane at stride dy v = (k : ℕ) → k < 16 → (get_or v k 0 ≡ pairs_sum plane at stride dy k) × (get_or v k 0 ≤ 510 * dy)

module _ (plane : List ℕ) (at stride : ℕ) where
  pub sums_none : Sums plane at stride 0 (replicate 16 0)
  unfolding sum_to
  sums_none = λ k l. let e = get_or-replicate 16 k 0 0 l in (e, small _ e)
    where
      small : (x : ℕ) → x ≡ 0 → x ≤ 510 * 0
      small x e = omega arith

  pub sums_more : (dy p : ℕ) (v u w : List ℕ) → p ≡ at + dy * stride → Sums plane at stride dy v → ((k : ℕ) → k < 16 → (get_or u k 0 ≡ pair_sum plane p k) × (get_or u k 0 ≤ 510)) → ((k : ℕ) → k < 16 → get_or w k 0 ≡ get_or v k 0 + get_or u k 0) → Sums plane at stride (dy + 1) w
  unfolding sum_to
  sums_more dy p v u w e hv hu hw = λ k l. (
    rw (add-one dy) (hw k l ∙ ap (λ (n : ℕ). n + get_or u k 0) (hv k l).0 ∙ ap (λ (n : ℕ). pairs_sum plane at stride dy k + n) ((hu k l).0 ∙ ap (λ (n : ℕ). pair_sum plane n k) e)),
    let a = (hv k l).1 in let b = (hu k l).1 in let c = hw k l in omega arith,
  )

-- ---- blocks

-- a cell by where its block begins
from : (plane : List ℕ) (top stride m i k : ℕ) → pairs_sum plane (top + 2 * i) stride m k ≡ pairs_sum plane top stride m (i + k)
from plane top stride m i k = sum_same m _ _ (λ dy h. pair dy)
  where
    first : (t d i k : ℕ) → t + 2 * i + d + 2 * k ≡ t + d + 2 * (i + k)
    first t d i k = omega arith

    second : (t d i k : ℕ) → t + 2 * i + d + (2 * k + 1) ≡ t + d + (2 * (i + k) + 1)
    second t d i k = omega arith

    pair : (dy : ℕ) → pair_sum plane (top + 2 * i + dy * stride) k ≡ pair_sum plane (top + dy * stride) (i + k)
    pair dy = rw (first top (dy * stride) i k, second top (dy * stride) i k) refl

-- sixteen cells from cell i on
pub block_is : (plane : List ℕ) (top stride m at i : ℕ) (v ys zs : List Float) → ((k : ℕ) → k < 16 → get_or v k nan ≡ f32 (pairs_sum plane (top + 2 * i) stride m k) ⊘ f32 (2 * m))
    → zs ≡ put ys at 16 (λ k. get_or v k nan) → zs ≡ put ys at 16 (λ k. cell_mean plane top stride m (i + k))
block_is plane top stride m at i v ys zs h e = e ∙ put_same ys at 16 _ _ (λ k r. h k r ∙ ap (λ (s : ℕ). f32 s ⊘ f32 (2 * m)) (from plane top stride m i k))
