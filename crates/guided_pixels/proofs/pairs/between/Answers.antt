use Rattle.std.proofs.Common.{◌∙◌, arith}
use Rattle.image.specs.Scratch.{cell_at}
use Rattle.guided_pixels.proofs.Phases.{phase_between}
use Rattle.guided_pixels.proofs.pairs.between.Goals as goal

pub returns : goal.returns
returns c =
    λ n h. let a = c.args in c.lerp.ensures ∙ phase_between (cell_at a.s.now a.src) a.i n _ a.p c.start_of-a.ensures.0 (omega arith) h
