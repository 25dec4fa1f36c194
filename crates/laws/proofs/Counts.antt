-- Counts and places whose sums do not compute.
use Rattle.std.proofs.Common.{◌≡◌, ℕ, ◌+◌, ◌-◌, ◌≤◌, arith}

pub plus_none : (n : ℕ) → n + 0 ≡ n
plus_none n = omega arith

pub none_plus : (n : ℕ) → 0 + n ≡ n
none_plus n = omega arith

-- a part and the rest
pub part_rest : (a n : ℕ) → a ≤ n → a + (n - a) ≡ n
part_rest a n h = omega arith

pub plus_plus : (a b c : ℕ) → a + (b + c) ≡ a + b + c
plus_plus a b c = omega arith
