use Rattle.guided_down.specs.Inner.Slopes.{slope_by}
use Rattle.std.proofs.Common.{ap, Float}
use lib.Ieee.{of_bits, of_int}
use Rattle.laws.specs.Floats.{◌⊕◌, ◌⊖◌, ◌⊗◌, ◌⊘◌}
use Rattle.guided_down.proofs.slopes.slope_by.Goals as goal

pub returns : goal.returns
unfolding slope_by of_bits of_int
returns c =
    let a = c.args in ap (λ (m : Float). (a.yc ⊖ a.y ⊗ a.c) ⊘ (m ⊕ a.eps)) c.fmax.ensures
