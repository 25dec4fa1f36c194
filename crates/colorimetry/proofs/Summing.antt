-- One more pixel and one more row of the sums over an area.
use Rattle.std.proofs.Common.{◌≡◌, refl, List, ℕ, ◌+◌, ◌*◌, add-one, get_or}
use Rattle.laws.specs.Sums.{sum_to}
use Rattle.colorimetry.specs.Inner.Sums.{row_sum, area_sum}

pub row_none : (rgb : List ℕ) (at k : ℕ) → row_sum rgb at 0 k ≡ 0
unfolding row_sum sum_to
row_none rgb at k = refl

pub row_more : (rgb : List ℕ) (at i k : ℕ) → row_sum rgb at (i + 1) k ≡ row_sum rgb at i k + get_or rgb (at + 3 * i + k) 0
unfolding row_sum sum_to
row_more rgb at i k = rw (add-one i) refl

pub area_none : (rgb : List ℕ) (at pitch n k : ℕ) → area_sum rgb at pitch n 0 k ≡ 0
unfolding area_sum sum_to
area_none rgb at pitch n k = refl

pub area_more : (rgb : List ℕ) (at pitch n j k : ℕ) → area_sum rgb at pitch n (j + 1) k ≡ area_sum rgb at pitch n j k + row_sum rgb (at + j * pitch) n k
unfolding area_sum sum_to
area_more rgb at pitch n j k = rw (add-one j) refl
