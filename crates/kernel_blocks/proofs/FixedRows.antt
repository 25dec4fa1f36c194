-- The fixed kernel over numbers with a sign, as an i32 holds them: sums that fit, the shift as a floor, and the tables' entries, none of which
-- passes 25 bits. The bounds go by differences (`Diff`), which `omega` reads.
use Rattle.std.proofs.Common.{◌≡◌, refl, ℕ, suc, ◌+◌, ◌<◌, ◌≤◌, arith}
use lib.IntN.{ℤ, pos, negsuc, ◌+ℤ◌}
use lib.Signed.{mag, shr_z}
use mir.Syntax.{w32}
use mir.Val.{SFits, to_z, of_z}
use mir.ValLaws.{to_z-of_z}
use Rattle.laws.specs.Differences.{floor_div}
use Rattle.laws.specs.Inner.Differences.{Diff}
use Rattle.laws.proofs.Differences.{of_pos, plus}
use Rattle.kernels.specs.Kernels.{fixed_red, fixed_blue, fixed_green_cb, fixed_green_cr}
use Rattle.kernels.proofs.TableRules.{red_diff, blue_diff, green_cb_part, green_cr_part}
use Rattle.kernel_blocks.specs.Inner.Blocks.{Small}

-- ---- numbers with a sign

below : {z : ℤ} {a b : ℕ} (m : ℕ) → Diff z a b → a < m + b → b ≤ m + a → mag z < m
below {z = pos n} m d h k = let e = d.is in omega arith
below {z = negsuc n} m d h k = let e = d.is in omega arith

of_neg : (n : ℕ) → Diff (negsuc n) 0 (suc n)
of_neg n = record { is = omega arith }

pub sum_small : (x y : ℤ) → Small x → Small y → mag (x +ℤ y) < 33554432
sum_small (pos a) (pos b) h k = below 33554432 (plus (of_pos a) (of_pos b)) (omega arith) (omega arith)
sum_small (pos a) (negsuc b) h k = below 33554432 (plus (of_pos a) (of_neg b)) (omega arith) (omega arith)
sum_small (negsuc a) (pos b) h k = below 33554432 (plus (of_neg a) (of_pos b)) (omega arith) (omega arith)
sum_small (negsuc a) (negsuc b) h k = below 33554432 (plus (of_neg a) (of_neg b)) (omega arith) (omega arith)

pub fits : (z : ℤ) → mag z < 33554432 → SFits w32 z
fits z h = record { sfits = omega arith }

pub back : (z : ℤ) → mag z < 33554432 → to_z w32 (of_z w32 z) ≡ z
back z h = to_z-of_z w32 z (fits z h)

pub small_back : (z : ℤ) → Small z → to_z w32 (of_z w32 z) ≡ z
small_back z h = back z (omega arith)

-- a shift that copies the sign is the floor
pub shift_is : (z : ℤ) → shr_z z 65536 ≡ floor_div z 65536
unfolding floor_div
shift_is (pos n) = refl
shift_is (negsuc n) = refl

pub shift_small : (z : ℤ) → mag z < 33554432 → Small (floor_div z 65536)
unfolding floor_div
shift_small (pos n) h = omega arith
shift_small (negsuc n) h = omega arith

-- ---- the tables' entries

pub red_small : (c : ℕ) → c < 256 → Small (fixed_red c)
red_small c h = below 16777216 (red_diff c) (omega arith) (omega arith)

pub blue_small : (c : ℕ) → c < 256 → Small (fixed_blue c)
blue_small c h = below 16777216 (blue_diff c) (omega arith) (omega arith)

pub green_cb_small : (c : ℕ) → c < 256 → Small (fixed_green_cb c)
green_cb_small c h = below 16777216 (green_cb_part c h) (omega arith) (omega arith)

pub green_cr_small : (c : ℕ) → c < 256 → Small (fixed_green_cr c)
green_cr_small c h = below 16777216 (green_cr_part c h) (omega arith) (omega arith)
