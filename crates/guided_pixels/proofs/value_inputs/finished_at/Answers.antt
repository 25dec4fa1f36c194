use Rattle.guided.specs.Scratch.{finished_at}
use Rattle.std.proofs.Common.{refl}
use Rattle.guided_pixels.proofs.value_inputs.finished_at.Goals as goal

pub returns-in-Cb : goal.returns-in-Cb
unfolding finished_at
returns-in-Cb c =
    rw c.in-Cb.is refl

pub returns-in-Cr : goal.returns-in-Cr
unfolding finished_at
returns-in-Cr c =
    rw c.in-Cr.is refl
