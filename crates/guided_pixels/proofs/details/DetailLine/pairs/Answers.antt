use Rattle.std.proofs.Common.{ap, arith}
use Rattle.image.specs.Samples.{sample_at, seen}
use Rattle.image.specs.Scratch.{cell_at}
use Rattle.guided_pixels.specs.declared.pairs.Pairs.{Pairs}
use Rattle.guided_pixels.specs.Inner.Across.{pairs_of}
use Rattle.guided_pixels.proofs.DetailRows.{detail_pairs}
use Rattle.guided_pixels.proofs.details.DetailLine.pairs.Goals as goal

pub returns : goal.returns
unfolding pairs_of
returns c =
    let a = c.args in
    let p = c.pairs_at-p.ensures in
    let y = c.lumas-y.ensures in
    detail_pairs a.layout (cell_at a.s.now a.self.src) (sample_at a.layout.sample_bytes (seen a.self.plane) a.self.y) a.i _ _ c.requires.2 (omega arith)
    (c.less.ensures _ _ (c.lefts.ensures _ y) (ap (λ (q : Pairs). q.left) p))
    (c.less-2.ensures _ _ (c.rights.ensures _ y) (ap (λ (q : Pairs). q.right) p))
