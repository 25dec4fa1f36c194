use Rattle.std.proofs.Common.{ap, arith}
use Rattle.guided_pixels.specs.declared.pairs.Pairs.{Pairs}
use Rattle.guided_pixels.specs.Inner.Across.{pairs_of}
use Rattle.guided_pixels.proofs.ValuePairs.{value_pairs}
use Rattle.guided_pixels.proofs.values.ValueInputsLine.pairs.Goals as goal

pub returns : goal.returns
unfolding pairs_of
returns c =
    let a = c.args in
    let t = a.self in
    let p = c.pairs_at-c.ensures in
    let q = c.pairs_at-a.ensures in
    value_pairs a.layout a.s.now t a.i _ _ c.requires.2 (omega arith)
    (c.values.ensures _ _ _ _ _ (ap (λ (u : Pairs). u.left) p) (ap (λ (u : Pairs). u.left) q) (c.lefts.ensures _ c.load-d.ensures) c.load-least.ensures c.load-greatest.ensures)
    (c.values-2.ensures _ _ _ _ _ (ap (λ (u : Pairs). u.right) p) (ap (λ (u : Pairs). u.right) q) (c.rights.ensures _ c.load-d.ensures) c.load-least.ensures c.load-greatest.ensures)
