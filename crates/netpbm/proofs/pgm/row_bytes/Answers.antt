use Rattle.std.proofs.Common.{ap, ℕ, ◌*◌, ◌≤◌, mul-le-mul, arith}
use Rattle.netpbm.specs.Inner.Held.{rows_held}
use Rattle.netpbm.proofs.Products.{bytes_most}
use Rattle.netpbm.proofs.pgm.row_bytes.Goals as goal

pub overflow_mul-result : goal.overflow_mul-result
overflow_mul-result c =
    let p = c.requires in omega (arith, mul-le-mul p.0 p.1)

pub overflow_mul-result-2 : goal.overflow_mul-result-2
overflow_mul-result-2 c =
    let b = bytes_most c.args.header.maxval.value in
    let e = c.sample_bytes.ensures in
    let k : c.sample_bytes.result ≤ 2 = omega arith in
    omega (arith, mul-le-mul (mul-le-mul c.requires.0 c.requires.1) k)

pub returns : goal.returns
unfolding rows_held
returns c =
    let h = c.args.header in
    let b = bytes_most h.maxval.value in
    let e = c.sample_bytes.ensures in
    let k : c.sample_bytes.result ≤ 2 = omega arith in
    (ap (λ (n : ℕ). h.width.value * h.height.value * n) e, omega (arith, mul-le-mul (mul-le-mul c.requires.0 c.requires.1) k))
