use Rattle.std.proofs.Common.{arith}
use Rattle.upsample.proofs.Axis.{far_even, far_odd}
use Rattle.upsample.proofs.weights.far.Goals as goal

pub returns-then-near-eq0 : goal.returns-then-near-eq0
returns-then-near-eq0 c =
    let a = c.args in omega (arith, far_even a.ch a.y c.if-y-eq0.true)

pub returns-else-near-eq0 : goal.returns-else-near-eq0
returns-else-near-eq0 c =
    let a = c.args in omega (arith, far_even a.ch a.y c.if-y-eq0.true)

pub returns-then-near-ch : goal.returns-then-near-ch
returns-then-near-ch c =
    let a = c.args in omega (arith, far_odd a.ch a.y c.if-y-eq0.false)

pub returns-else-near-ch : goal.returns-else-near-ch
returns-else-near-ch c =
    let a = c.args in omega (arith, far_odd a.ch a.y c.if-y-eq0.false)
