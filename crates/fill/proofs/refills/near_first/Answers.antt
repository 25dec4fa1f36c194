use Rattle.std.proofs.Common.{◌+◌, ◌-◌, ◌*◌, ◌≤◌, ◌∙◌, sym, arith, mul-le-mul_right}
use Rattle.fill.proofs.Near.{top_most}
use Rattle.fill.proofs.refills.near_first.Goals as goal

pub overflow_mul-result : goal.overflow_mul-result
overflow_mul-result c =
    let l = c.args.layout in
    let r = c.args.cells in
    let m = top_most l r c.requires.0 c.requires.1 (sym c.is_empty.ensures ∙ c.if-is_empty.false) in
    let n : (r.top - 2) * l.rv ≤ (r.top + r.height + 2) * l.rv = mul-le-mul_right l.rv (omega arith) in
    rw c.saturating_sub.ensures (omega arith)
