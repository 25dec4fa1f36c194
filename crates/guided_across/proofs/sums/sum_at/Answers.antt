-- One store. `three_is` says that terms prev i, i and next i are those of sum i with edges repeated, `three_one` that the store is a run of one value.
use Rattle.guided_across.proofs.Threes.{three_is, three_one}
use Rattle.guided_across.proofs.sums.sum_at.Goals as goal

pub returns : goal.returns
returns g c =
    let a = c.args in
    three_one (g.T.Terms.term a.terms) a.n a.dst a.i a.s.now _ (three_is a.n (g.T.Terms.term a.terms a.s.now) a.i _ _ _ c.prev-l.ensures c.next-r.ensures (cc (c.sum3-v.ensures, c.term.ensures, c.term-2.ensures, c.term-3.ensures)))
