-- Rows of w cells each, one after another: the facts about a row's place that are not linear.
use Rattle.std.proofs.Common.{◌≡◌, ℕ, ◌+◌, ◌-◌, ◌*◌, ◌≤◌, ◌<◌, mul-le-mul_right, suc-mul, add-one, arith}

-- row i of n ends within the n rows
pub row_fits : (i n w : ℕ) → i < n → i * w + w ≤ n * w
row_fits i n w h = rw suc-mul at (mul-le-mul_right w h)

-- the next row begins where row i ends
pub next_row : (i w : ℕ) → (i + 1) * w ≡ i * w + w
next_row i w = rw (add-one, suc-mul)

-- a row of a plane begins no later than the last one
pub row_begins : (y h stride : ℕ) → y < h → y * stride ≤ (h - 1) * stride
row_begins y h stride l = mul-le-mul_right stride (omega arith)

-- a cell of an earlier row stands before every cell of a later one
pub rows_apart : (i j w k : ℕ) → i < j → k < w → i * w + k < j * w
rows_apart i j w k h l = omega (arith, row_fits i j w h)
