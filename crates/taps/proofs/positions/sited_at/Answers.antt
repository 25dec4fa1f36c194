-- The three returns are the cases of `sited_at`: the siting that was matched, then the test that was taken. The products fit by mul-le-mul.
use Rattle.std.proofs.Common.{ℕ, ◌+◌, ◌*◌, ◌^◌, ◌≤◌, ◌<◌, mul-le-mul, le-ltb, lt-ltb, arith}
use Rattle.taps.specs.Taps.{sited_at}
use Rattle.taps.proofs.positions.sited_at.Goals as goal

fits_one : (o num : ℕ) → o ≤ 8192 → num ≤ 4 → o * num < 2 ^ 64
fits_one o num a b = omega (arith, mul-le-mul a b)

fits-two : (o num : ℕ) → o ≤ 8192 → num ≤ 4 → (2 * o + 1) * num < 2 ^ 64
fits-two o num a b = omega (arith, mul-le-mul a b)

pub returns-then-n-den : goal.returns-then-n-den
unfolding sited_at
returns-then-n-den c =
    simp (c.in-Centred.is, lt-ltb _ _ c.if-n-den.true, c.on_cell.ensures)

pub returns-else-n-den : goal.returns-else-n-den
unfolding sited_at
returns-else-n-den c =
    simp (c.in-Centred.is, le-ltb _ _ c.if-n-den.false, c.spot_at.ensures)

pub returns-in-CoSited : goal.returns-in-CoSited
unfolding sited_at
returns-in-CoSited c =
    simp (c.in-CoSited.is, c.spot_at-in-CoSited.ensures)
