use Rattle.std.proofs.Common.{ap, ◌∙◌, List, ◌+◌, ◌*◌, get_or, Float}
use Rattle.std.specs.Float.{nan}
use Rattle.laws.proofs.Lists.{table_at}
use Rattle.guided_pixels.specs.declared.pairs.Pairs.{Pairs}
use Rattle.guided_pixels.proofs.TwoPixels.{in_turn}
use Rattle.guided_pixels.proofs.twos.block.Goals as goal

pub returns : goal.returns
returns g c =
    let a = c.args in
    let f = g.L.Line.value a.line a.layout a.s.now in
    let e = in_turn f a.i _ c.pairs-p.ensures in
    λ k h. ap (λ (v : List Float). get_or v k nan) (c.in_columns.ensures (λ k. f (2 + 2 * a.i + k)) (ap (λ (p : Pairs). p.left) e) (ap (λ (p : Pairs). p.right) e)) ∙ table_at 16 _ k nan h
