use Rattle.std.proofs.Common.{arith}
use Rattle.image.specs.Scratch.{cell_at}
use Rattle.guided_pixels.proofs.Phases.{pixels_are}
use Rattle.guided_pixels.proofs.pairs.cell_at.Goals as goal

pub returns : goal.returns
returns c =
    let a = c.args in let o = c.requires in pixels_are a.layout (cell_at a.s.now a.src) a.i a.phases _ _ _ _ _ o.1 o.0 (c.between.ensures a.layout.cw (omega arith)) (c.between-2.ensures a.layout.cw (omega arith)) (c.between-3.ensures a.layout.cw (omega arith)) (c.between-4.ensures a.layout.cw (omega arith))
