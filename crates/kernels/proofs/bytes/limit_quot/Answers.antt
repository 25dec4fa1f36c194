use Rattle.std.proofs.Common.{◌≡◌, refl, ◌-◌, arith}
use native.Mathlib.Nat.{zero-div}
use Rattle.kernels.proofs.bytes.limit_quot.Goals as goal

pub returns-then-p-n : goal.returns-then-p-n
returns-then-p-n c =
    let e : c.args.p - c.args.n ≡ 0 = omega arith in rw (e, zero-div) refl
