-- Laws of the rounded-up quotient (n + (r - 1)) / r. Equations come from n = (n / r) * r + n % r, bounds from turning a quotient below m into a
-- number below m * r. Products with r are not linear, so that omega is handed them as terms.
use Rattle.std.proofs.Common.{◌≡◌, ap, ◌∙◌, inl, inr, ℕ, ◌+◌, ◌-◌, ◌*◌, ◌/◌, ◌%◌, ◌≤◌, ◌<◌, div-add-mod', mod-lt, suc-mul, div-lt_iff_lt-mul, le_of_suc-le-suc, le-div_iff_mul-le, div-mul-le_self, mul-le-mul_left, eq-zero-or-pos, add-one, arith}
use native.Mathlib.Nat.{div-zero}
use lib.Arith.{digits_div}
use Rattle.image.specs.Tests.{div_ceil}

-- by a divisor of 0
pub ceil_zero : (n r : ℕ) → r ≡ 0 → div_ceil n r ≡ 0
unfolding div_ceil
ceil_zero n r e = rw e (div-zero (n + (0 - 1)))

-- with no remainder it is the quotient
pub ceil_whole : (n r : ℕ) → 0 < r → n % r ≡ 0 → div_ceil n r ≡ n / r
unfolding div_ceil
ceil_whole n r p e =
    let d : n / r * r + n % r ≡ n = div-add-mod' n r in
    let s : n + (r - 1) ≡ n / r * r + (r - 1) = omega arith in
    ap (λ (x : ℕ). x / r) s ∙ digits_div (n / r) (omega arith)

-- with a remainder it is one more
pub ceil_more : (n r : ℕ) → 0 < r → 0 < n % r → div_ceil n r ≡ n / r + 1
unfolding div_ceil
ceil_more n r p h =
    let d : n / r * r + n % r ≡ n = div-add-mod' n r in
    let l : n % r < r = mod-lt n p in
    let m : (n / r + 1) * r ≡ n / r * r + r = rw (add-one, suc-mul) in
    let s : n + (r - 1) ≡ (n / r + 1) * r + (n % r - 1) = omega arith in
    ap (λ (x : ℕ). x / r) s ∙ digits_div (n / r + 1) (omega arith)

-- a pixel inside the picture has its cell inside the plane
pub cell_inside : (n r x : ℕ) → 0 < r → x < n → x / r < div_ceil n r
unfolding div_ceil
cell_inside n r x p h = (le-div_iff_mul-le p).1 (omega (arith, suc-mul (x / r) r, div-mul-le_self x r))

-- the cells reach over the pixels
pub ceil_covers : (n r : ℕ) → 0 < r → n ≤ div_ceil n r * r
unfolding div_ceil
ceil_covers n r p =
    let m = n + (r - 1) in
    let d : m / r * r + m % r ≡ m = div-add-mod' m r in
    let l : m % r < r = mod-lt m p in
    omega arith

-- there are no more cells than m where m cells reach over the pixels, so no more than pixels, and one at least
pub ceil_within : (n r m : ℕ) → 0 < r → n ≤ m * r → div_ceil n r ≤ m
unfolding div_ceil
ceil_within n r m p h = le_of_suc-le-suc ((div-lt_iff_lt-mul p).1 (omega (arith, suc-mul m r)))

pub ceil_most : (n r : ℕ) → 0 < r → div_ceil n r ≤ n
ceil_most n r p = ceil_within n r n p (omega (arith, mul-le-mul_left n p))

pub ceil_some : (n r : ℕ) → 0 < r → 0 < n → 0 < div_ceil n r
ceil_some n r p h = elim (eq-zero-or-pos (div_ceil n r)) [ inl e ↦ absurd (none (div_ceil n r) e (ceil_covers n r p)) | inr l ↦ l ]
  where
    none : (c : ℕ) → c ≡ 0 → n ≤ c * r → ⊥
    none c e k = let z : c * r ≡ 0 * r = ap (λ (x : ℕ). x * r) e in omega arith
