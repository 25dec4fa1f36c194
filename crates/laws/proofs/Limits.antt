-- Tests on numbers that failed.
use Rattle.std.proofs.Common.{◌≡◌, refl, Bool, true, false, ◌||◌, ℕ, ◌≤◌, arith, ltb, ltb-false}
use Rattle.laws.specs.Numbers.{outside_of}

-- neither of two tests applies
pub neither : (a b : Bool) → (a || b) ≡ false → (a ≡ false) × (b ≡ false)
neither true b e = let z : ◌≡◌ {A = ℕ} 0 1 = cc in absurd (omega arith)
neither false b e = (refl, e)

-- a number that passes lies between the limits
pub within : (lo hi x : ℕ) → outside_of lo hi x ≡ false → (lo ≤ x) × (x ≤ hi)
within lo hi x e = let p = neither (ltb x lo) (ltb hi x) e in (ltb-false x lo p.0, ltb-false hi x p.1)
