use Rattle.image.specs.Scratch.{cell_at}
use Rattle.guided_pixels.proofs.DetailRows.{detail_is}
use Rattle.guided_pixels.proofs.details.DetailLine.pixel.Goals as goal

pub returns : goal.returns
returns c =
    let a = c.args in detail_is a.layout (cell_at a.s.now a.self.src) a.x _ _ _ c.luma.ensures c.across_pixel-cells.ensures
