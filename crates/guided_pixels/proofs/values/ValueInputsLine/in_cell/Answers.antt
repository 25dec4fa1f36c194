use Rattle.std.proofs.Common.{ℕ, Float, ◌∙◌, arith}
use Rattle.image.specs.Scratch.{cell_at}
use Rattle.guided.specs.Scratch.{detail_at}
use Rattle.guided_pixels.proofs.CellValues.{value_pixel}
use Rattle.guided_pixels.specs.Inner.Values.{value_at}
use Rattle.guided_pixels.proofs.values.ValueInputsLine.in_cell.Goals as goal

pub returns : goal.returns
unfolding value_at detail_at
returns c =
    let a = c.args in
    let t = a.self in
    let p = c.requires.2 in
    let g : ℕ → ℕ → Float = cell_at a.s.now in
    c.limited.ensures ∙ rw (p.least, p.greatest) (value_pixel a.layout (g t.cells) (g t.slopes) (g t.least) (g t.greatest) _ _ _ a.i a.k (omega arith) (p.cells a.k (omega arith)) (p.slopes a.k (omega arith)))
