-- The mean of bytes: rounded once, and within the bytes.
use Rattle.std.proofs.Common.{◌≡◌, ap₂, ◌∙◌, false, ℕ, ◌+◌, ◌*◌, ◌≤◌, ◌<◌, div-lt_iff_lt-mul, le-div_iff_mul-le, mul-one, arith, T}
use lib.IntN.{pos}
use lib.Ieee.{binary64, of_int, round, le}
use lib.Ieee.Order.{round_mono}
use Rattle.laws.specs.Rounding.{half_up}
use Rattle.laws.proofs.Values.{cast_value, div_rounded}
use Rattle.colorimetry.specs.Patches.{mean_of}

-- a whole-number mean of bytes is a byte
pub whole_small : (s n : ℕ) → s ≤ 255 * n → 0 < n → half_up s n < 256
whole_small s n h p = let q : 0 < 2 * n = omega arith in let l : 2 * s + n < 256 * (2 * n) = omega arith in (div-lt_iff_lt-mul q).1 l

-- and lies between two bounds of them
pub whole_within : (s n lo hi : ℕ) → lo * n ≤ s → s ≤ hi * n → 0 < n → (lo ≤ half_up s n) × (half_up s n ≤ hi)
whole_within s n lo hi a b p =
    let q : 0 < 2 * n = omega arith in
    let l : lo * (2 * n) ≤ 2 * s + n = omega arith in
    let m : 2 * s + n < (hi + 1) * (2 * n) = omega arith in
    ((le-div_iff_mul-le q).1 l, let k : half_up s n < hi + 1 = (div-lt_iff_lt-mul q).1 m in omega arith)

-- the float is s / n rounded once
pub mean_once : (s n : ℕ) → s ≤ 9007199254740992 → n ≤ 9007199254740992 → 0 < n → mean_of s n ≡ round binary64 false s n
unfolding mean_of
mean_once s n a b p =
    div_rounded binary64 (of_int binary64 (pos s)) (of_int binary64 (pos n)) s 1 n 1 (omega arith) p (omega arith) (cast_value binary64 s a) (cast_value binary64 n b)
    ∙ ap₂ (λ (x y : ℕ). round binary64 false x y) (mul-one s) (mul-one n)

-- and lies between two bounds, since rounding keeps the order
pub mean_within : (s n lo hi : ℕ) → s ≤ 9007199254740992 → n ≤ 9007199254740992 → lo * n ≤ s → s ≤ hi * n → 0 < n → T (le (of_int binary64 (pos lo)) (mean_of s n)) × T (le (mean_of s n) (of_int binary64 (pos hi)))
unfolding of_int
mean_within s n lo hi a b l h p = rw (mean_once s n a b p) (round_mono binary64 lo 1 s n (omega arith) p (omega arith), round_mono binary64 s n hi 1 p (omega arith) (omega arith))
