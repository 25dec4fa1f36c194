use Rattle.std.proofs.Common.{arith}
use Rattle.guided_across.proofs.Threes.{inner_more}
use Rattle.guided_across.proofs.sums.sum_inner.Goals as goal

pub loop-i-preserved : goal.loop-i-preserved
loop-i-preserved g c =
    let a = c.args in
    inner_more (g.met.T.Terms.behind a.terms a.n a.dst c.requires.1) _ _ c.loop-i.i c.loop-i.invariant (omega arith) _ (cc (c.sum3-v.ensures, c.term.ensures, c.term-in-loop-i.ensures, c.term-in-loop-i-2.ensures))
