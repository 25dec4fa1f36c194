-- A lerp by 0 is what ratio 1 asks for (`one_is`), 0.0 being its fraction by the bits.
use lib.Ieee.{of_bits, of_int}
use Rattle.std.proofs.Common.{◌∙◌}
use Rattle.image.specs.Scratch.{cell_at}
use Rattle.guided_pixels.proofs.DetailRows.{detail_is}
use Rattle.guided_pixels.proofs.Phases.{one_is}
use Rattle.guided_pixels.proofs.details.DetailLine.one.Goals as goal

pub returns : goal.returns
unfolding of_bits of_int
returns c =
    let a = c.args in
    let g = cell_at a.s.now a.self.src in
    detail_is a.layout g a.x _ _ _ c.luma.ensures (c.lerp-v.ensures ∙ one_is a.layout g a.x c.requires.2 c.requires.3)
