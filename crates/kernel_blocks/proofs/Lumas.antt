-- Luma below the grid's bits, an offset above them, and their sum.
use Rattle.std.proofs.Common.{◌≡◌, sym, ap, subst, ◌∙◌, ℕ, ◌+◌, ◌≤◌, arith}
use lib.IntN.{ℤ, pos, ◌+ℤ◌}
use mir.Syntax.{w32}
use mir.Val.{to_z, of_z}
use mir.ValLaws.{to_z-of_z}
use Rattle.laws.specs.Differences.{limit}
use Rattle.laws.specs.Inner.Differences.{Diff}
use Rattle.laws.proofs.Differences.{of_pos, move, plus, minus, unique, as_sum, from_sum}
use Rattle.kernels.specs.Inner.Forms.{Biased}
use Rattle.kernel_blocks.specs.Inner.Floating.{OnGrid, Lowered, Luma}
use Rattle.kernel_blocks.proofs.Signed.{holds}

pub lowered_diff : {z : ℤ} {l : ℕ} → Lowered z l → Diff z l 1329594368
lowered_diff {l = l} h = subst (λ (x : ℤ). Diff x l 1329594368) (sym h.is) (move l 1329594368 (minus (of_pos l) (of_pos 1329594368)) (omega arith))

-- an i32 holds it
pub lowered_back : {z : ℤ} {l : ℕ} → Lowered z l → to_z w32 (of_z w32 z) ≡ z
lowered_back {z} h = let l = h.most in to_z-of_z w32 z (record { sfits = holds (lowered_diff h) (omega arith) (omega arith) })

pub lowered_held : {z : ℤ} {l : ℕ} → Lowered z l → Lowered (to_z w32 (of_z w32 z)) l
lowered_held h = record { most = h.most; is = lowered_back h ∙ h.is }

pub luma_held : {z : ℤ} → Luma z → Luma (to_z w32 (of_z w32 z))
luma_held h = (h.0, lowered_held h.1)

-- an offset with another bias
pub on_grid_from : {z : ℤ} (bias q r : ℕ) → Biased z bias q → bias ≤ 227 → r + bias ≡ 1329594368 + q → OnGrid z r
on_grid_from {z} bias q r h l e =
    let f = h.fits in
    record { is = record { is = as_sum r 1329594368 (move r 1329594368 (from_sum z q bias h.is) (omega arith)); fits = omega arith }; most = omega arith }

-- the bits of the two cancel
pub sum_is : {y z : ℤ} {l r : ℕ} → Lowered y l → OnGrid z r → y +ℤ pos r ≡ pos l +ℤ z
sum_is {z = z} {l = l} {r = r} h k =
    unique (plus (lowered_diff h) (of_pos r)) (move (l + r) (1329594368 + 0) (plus (of_pos l) (from_sum z r 1329594368 k.is.is)) (omega arith))

-- so a byte by their sum is the byte that the definition has
pub byte_is : {y z : ℤ} {l r b : ℕ} → b ≡ limit 255 (y +ℤ pos r) → Lowered y l → OnGrid z r → b ≡ limit 255 (pos l +ℤ z)
byte_is e h k = e ∙ ap (limit 255) (sum_is h k)
