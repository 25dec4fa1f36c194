-- Differences of numbers of 31 bits as an i32 holds them.
use Rattle.std.proofs.Common.{sym, subst, ℕ, ◌+◌, ◌≤◌, ◌<◌, arith}
use lib.IntN.{ℤ, pos, negsuc, ◌-ℤ◌}
use lib.Signed.{mag}
use mir.Syntax.{w32}
use mir.Val.{to_z}
use mir.ValLaws.{to_z_pos}
use Rattle.laws.specs.Inner.Differences.{Diff}
use Rattle.laws.proofs.Differences.{of_pos, move, minus}

pub read : (n : ℕ) → n ≤ 2147483647 → Diff (to_z w32 n) n 0
read n h = subst (λ (z : ℤ). Diff z n 0) (sym (to_z_pos w32 n (omega arith))) (of_pos n)

pub less : (a b : ℕ) → a ≤ 2147483647 → b ≤ 2147483647 → Diff (to_z w32 a -ℤ to_z w32 b) a b
less a b h k = move a b (minus (read a h) (read b k)) (omega arith)

pub holds : {z : ℤ} {a b : ℕ} → Diff z a b → a ≤ 2147483647 + b → b ≤ 2147483647 + a → mag z < 2147483648
holds {z = pos n} d h k = let e = d.is in omega arith
holds {z = negsuc n} d h k = let e = d.is in omega arith
