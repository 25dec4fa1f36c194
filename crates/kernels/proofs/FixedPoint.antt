-- The channels of the fixed kernel over natural numbers, as the code computes them; red and blue once, over their multiplier.
use Rattle.std.proofs.Common.{◌≡◌, refl, ◌∙◌, ℕ, ◌+◌, ◌*◌, ◌-◌, ◌/◌, ◌<◌, ◌≤◌, min, arith, lit<}
use Rattle.laws.specs.Inner.Differences.{Diff}
use Rattle.laws.proofs.Differences.{of_pos, move, plus, neg, minus, times, floored, limited}
use Rattle.kernels.specs.Kernels.{less128, fixed_green_cb, fixed_green_cr, fixed255}
use Rattle.kernels.specs.Inner.Forms.{fixed_offset, raised_fixed, plus_fixed}

less_128 : (c : ℕ) → Diff (less128 c) c 128
less_128 c = move c 128 (minus (of_pos c) (of_pos 128)) (omega arith)

-- red's or blue's offset, by its multiplier: what is left of its raised form once the bias is taken away
pub offset_diff : (k bias c : ℕ) → 128 * k < 65536 * bias + 32768 → Diff (fixed_offset k c) (raised_fixed k bias c) bias
unfolding fixed_offset
offset_diff k bias c h =
    floored 65536 (lit< tt) bias refl
    (move (k * c + (65536 * bias + 32768 - 128 * k)) (bias * 65536) (plus (times k (less_128 c)) (of_pos 32768)) (omega arith))

pub plus_fixed_is : (k bias y c : ℕ) → 128 * k < 65536 * bias + 32768 → plus_fixed k y c ≡ min (y + raised_fixed k bias c - bias) 255
unfolding plus_fixed
plus_fixed_is k bias y c h = limited 255 (plus (of_pos y) (offset_diff k bias c h)) ∙ omega arith

-- green's two parts, raised by k and l: p is a less 22,554 or 46,802 times chroma, a being the centre's, the half and what it is raised by
pub green_cb_diff : (a k c p : ℕ) → a ≡ k + 2886912 → 22554 * c ≤ a → p ≡ a - 22554 * c → Diff (fixed_green_cb c) p k
unfolding fixed_green_cb
green_cb_diff a k c p e h q = move p k (neg (times 22554 (less_128 c))) (omega arith)

pub green_cr_diff : (a l c p : ℕ) → a ≡ l + 6023424 → 46802 * c ≤ a → p ≡ a - 46802 * c → Diff (fixed_green_cr c) p l
unfolding fixed_green_cr
green_cr_diff a l c p e h q = move p l (plus (neg (times 46802 (less_128 c))) (of_pos 32768)) (omega arith)

-- green from its two parts, however each is raised
pub green_parts : (y b r p q k l bias : ℕ) → Diff (fixed_green_cb b) p k → Diff (fixed_green_cr r) q l → k + l ≡ bias * 65536
    → (fixed255 y b r).green ≡ min (y + (p + q) / 65536 - bias) 255
unfolding fixed255
green_parts y b r p q k l bias d e h = limited 255 (plus (of_pos y) (floored 65536 (lit< tt) bias h (plus d e))) ∙ omega arith
