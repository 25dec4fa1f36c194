-- An `|` is 0 only where both of its sides are, since each is at most the `|`.
use Rattle.std.proofs.Common.{◌≡◌, arith, below_more}
use Rattle.std.proofs.lemmas.Nat.{le_or_l, le_or_r}
use Rattle.kernel_blocks.proofs.doubts.any_doubt.Goals as goal

pub loop-i-preserved : goal.loop-i-preserved
loop-i-preserved g c =
    let l = le_or_l c.loop-i.joined c.doubt-joined.result in
    let r = le_or_r c.loop-i.joined c.doubt-joined.result in
    λ e.
    let z : c.doubt-joined.result ≡ 0 = omega arith in
    below_more _ _ (c.loop-i.invariant (omega arith)) (rw z at c.doubt-joined.ensures)
