-- A rounding adds 1 / 256 for numbers up to 131,070 too: `Mild` of the laws stops at 65,536, which blue passes in studio range.
use Rattle.std.proofs.Common.{Bool, true, false, ℕ, ◌+◌, ◌*◌, ◌≤◌, ◌<◌, mul-le-mul_right, le_of_mul-le-mul_right, arith}
use lib.Ieee.{binary32, round}
use Rattle.laws.specs.Floats.{over, under}
use Rattle.laws.specs.Inner.Floats.{Close}
use Rattle.laws.proofs.Nearness.{round_near, near_chain, Step}

pub record Ample (p n c e : ℕ) : Type 0 where
  pub some : 0 < c
  pub top : p ≤ 131070 * c + n
  pub bottom : n ≤ 131070 * c + p
  pub few : e ≤ 256

bound : (R C p n c e : ℕ) → 0 < C → 0 < c → p ≤ 131070 * c + n → e ≤ 256 → 256 * (R * c + n * C) ≤ 256 * (0 * c + p * C) + e * (c * C) → R < 0x2_0000 * C
bound R C p n c e zC zc t f h = last (le_of_mul-le-mul_right (go t f h) zc)
  where
    go : p ≤ 131070 * c + n → e ≤ 256 → 256 * (R * c + n * C) ≤ 256 * (0 * c + p * C) + e * (c * C) → R * c ≤ 131071 * C * c
    go t f h = omega (arith, mul-le-mul_right C t, mul-le-mul_right (c * C) f)

    last : R ≤ 131071 * C → R < 0x2_0000 * C
    last h = omega (arith, zC)

sized : (s : Bool) (R C p n c e : ℕ) → 0 < C → Ample p n c e → Close (over s R) (under s R) C p n c e → R < 0x2_0000 * C
sized false R C p n c e z l h = bound R C p n c e z l.some l.top l.few h.hi
sized true R C p n c e z l h = bound R C n p c e z l.some l.bottom l.few h.lo

pub ample_step : (p n c e : ℕ) → Ample p n c e → Step p n c e (1 + e)
ample_step p n c e l s R C z h = near_chain (round binary32 s R C) (over s R) (under s R) C p n c 1 e z (round_near s R C z (sized s R C p n c e z l h)) h
