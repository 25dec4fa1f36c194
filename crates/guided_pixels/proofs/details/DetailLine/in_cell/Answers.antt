use Rattle.std.proofs.Common.{◌+◌, ◌*◌, arith}
use Rattle.image.specs.Scratch.{cell_at}
use Rattle.guided_pixels.proofs.DetailRows.{detail_is}
use Rattle.guided_pixels.proofs.details.DetailLine.in_cell.Goals as goal

pub returns : goal.returns
returns c =
    let a = c.args in detail_is a.layout (cell_at a.s.now a.self.src) (a.i * a.layout.rh + a.k) _ _ _ c.luma.ensures (c.requires.2 a.k (omega arith))
