-- Laws of differences: sums, products, the floor of a quotient and limits, so that a formula over whole numbers below zero too is shown by `omega`.
-- Each is linear once the sign of z is known. The hard step is `floored` below zero, where the floor has to come out of the quotient and
-- the remainder of what z lies below zero by.
use Rattle.std.proofs.Common.{◌≡◌, refl, sym, ◌∙◌, ap, Bool, true, false, cond, ℕ, zero, suc, ◌+◌, ◌*◌, ◌-◌, ◌/◌, ◌%◌, ◌<◌, ◌≤◌, min, arith, div-add-mod', mod-lt, div-lt_iff_lt-mul, ltb, ltb-true, ltb-false}
use native.Mathlib.Nat.{zero-div, add-mul-div_right}
use lib.Arith.{digits_div}
use lib.IntN.{ℤ, pos, negsuc, neg_ℤ, sub_ℕ, ◌+ℤ◌, ◌-ℤ◌, ◌*ℤ◌}
use Rattle.laws.specs.Differences.{floor_div, limit, within}
use Rattle.laws.specs.Inner.Differences.{Off, Diff}

of_cond : (a b : ℕ) (t : Bool) → ltb a b ≡ t → Off (cond t (negsuc (b - suc a)) (pos (a - b))) a b
of_cond a b true e = let h : a < b = ltb-true a b e in omega arith
of_cond a b false e = let h : b ≤ a = ltb-false a b e in omega arith

pub of_sub : (a b : ℕ) → Diff (sub_ℕ a b) a b
of_sub a b = record { is = of_cond a b (ltb a b) refl }

pub of_pos : (n : ℕ) → Diff (pos n) n 0
of_pos n = record { is = omega arith }

-- the same difference, by other naturals
pub move : {z : ℤ} {a b : ℕ} (c d : ℕ) → Diff z a b → a + d ≡ c + b → Diff z c d
move {z = pos n} c d h e = record { is = omega arith }
move {z = negsuc n} c d h e = record { is = omega arith }

pub plus : {z w : ℤ} {a b c d : ℕ} → Diff z a b → Diff w c d → Diff (z +ℤ w) (a + c) (b + d)
plus {z = pos m} {w = pos n} h k = record { is = omega arith }
plus {z = pos m} {w = negsuc n} h k = move _ _ (of_sub m (suc n)) (omega arith)
plus {z = negsuc m} {w = pos n} h k = move _ _ (of_sub n (suc m)) (omega arith)
plus {z = negsuc m} {w = negsuc n} h k = record { is = omega arith }

pub neg : {z : ℤ} {a b : ℕ} → Diff z a b → Diff (neg_ℤ z) b a
neg {z = pos zero} h = record { is = omega arith }
neg {z = pos (suc n)} h = record { is = omega arith }
neg {z = negsuc n} h = record { is = omega arith }

pub minus : {z w : ℤ} {a b c d : ℕ} → Diff z a b → Diff w c d → Diff (z -ℤ w) (a + d) (b + c)
minus h k = plus h (neg k)

pub times : {z : ℤ} {a b : ℕ} (k : ℕ) → Diff z a b → Diff (pos k *ℤ z) (k * a) (k * b)
times {z = pos n} k h = record { is = rw h.is (omega arith) }
times {z = negsuc n} k h = move _ _ (neg (of_pos (k * suc n))) (rw (sym h.is) (omega arith))

spread : (t q d : ℕ) → (t + suc q) * d ≡ t * d + (q * d + d)
spread t q d = omega arith

-- the floor of a difference by k times the divisor
pub floored : {z : ℤ} {a b : ℕ} (d : ℕ) → 0 < d → (k : ℕ) → b ≡ k * d → Diff z a b → Diff (floor_div z d) (a / d) k
unfolding floor_div
floored {z = pos n} d p k e h = record { is = rw (h.is, e) (add-mul-div_right n k p) }
floored {z = negsuc n} {a = a} d p k e h =
    let r : n % d < d = mod-lt n p in
    let q : n / d * d + n % d ≡ n = div-add-mod' n d in
    let l : n / d < k = (div-lt_iff_lt-mul p).1 (omega arith) in
    let m : k * d ≡ (k - suc (n / d)) * d + (n / d * d + d) =
    ap (λ (x : ℕ). x * d) (omega arith) ∙ spread (k - suc (n / d)) (n / d) d in
    let s : a ≡ (k - suc (n / d)) * d + (d - suc (n % d)) = omega arith in
    record { is = rw (s, digits_div (k - suc (n / d)) {m = d} {r = d - suc (n % d)} (omega arith)) (omega arith) }

-- limited to 0 .. top
pub limited : {z : ℤ} {a b : ℕ} (top : ℕ) → Diff z a b → limit top z ≡ min (a - b) top
unfolding limit
limited {z = pos n} top h = omega arith
limited {z = negsuc n} top h = omega arith

pub limited_floor : {z : ℤ} {a b : ℕ} (top d : ℕ) → Diff z a b → limit top (floor_div z d) ≡ min ((a - b) / d) top
unfolding limit floor_div
limited_floor {z = pos n} {a = a} {b = b} top d h = let e : a - b ≡ n = omega arith in rw e refl
limited_floor {z = negsuc n} {a = a} {b = b} top d h = let e : a - b ≡ 0 = omega arith in rw (e, zero-div d) (omega arith)

-- limited to -r .. r, by a difference from r
pub within_limits : {z : ℤ} {c : ℕ} (r : ℕ) → 0 < r → Diff z c r → Diff (within r z) (min c (2 * r)) r
unfolding within
within_limits {z = pos n} r p h = record { is = omega arith }
within_limits {z = negsuc n} r p h = record { is = omega arith }

-- a difference has one value
pub unique : {z w : ℤ} {a b : ℕ} → Diff z a b → Diff w a b → z ≡ w
unique {z = pos m} {w = pos n} h k = ap pos (omega arith)
unique {z = pos m} {w = negsuc n} h k = (let f : ⊥ = omega arith in absurd f)
unique {z = negsuc m} {w = pos n} h k = (let f : ⊥ = omega arith in absurd f)
unique {z = negsuc m} {w = negsuc n} h k = ap negsuc (omega arith)

-- a difference as a sum, both ways
pub as_sum : {z : ℤ} (a b : ℕ) → Diff z a b → pos a ≡ z +ℤ pos b
as_sum a b h = unique (of_pos a) (move a 0 (plus h (of_pos b)) (omega arith))

pub from_sum : (z : ℤ) (a b : ℕ) → pos a ≡ z +ℤ pos b → Diff z a b
from_sum (pos n) a b e = let d : Diff (pos a) (n + b) 0 = rw e (of_pos (n + b)) in record { is = omega arith }
from_sum (negsuc n) a b e = let d : Diff (pos a) b (suc n) = rw e (of_sub b (suc n)) in record { is = omega arith }
