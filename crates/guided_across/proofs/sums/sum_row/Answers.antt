use Rattle.std.proofs.Common.{◌∙◌, arith}
use Rattle.guided_across.proofs.Threes.{row_one, row_made}
use Rattle.guided_across.proofs.sums.sum_row.Goals as goal

pub returns-then-n-eq1 : goal.returns-then-n-eq1
returns-then-n-eq1 g c =
    let a = c.args in c.sum_at.ensures ∙ row_one (g.T.Terms.term a.terms) a.n a.dst a.s.now c.if-n-eq1.true

pub returns : goal.returns
returns g c =
    let a = c.args in
    row_made _ a.n a.dst a.s.now (g.met.T.Terms.behind a.terms a.n a.dst c.requires.1) (omega arith) _ _ _ c.sum_at.ensures c.sum_inner.ensures c.sum_at-2.ensures
