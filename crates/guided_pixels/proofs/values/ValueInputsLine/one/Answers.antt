-- The law `value_one` says that at ratio 1 the value by cells x and x + 1 with fraction 0 is the definition's; that 0.0 is its fraction is by the bits.
use lib.Ieee.{of_bits, of_int}
use Rattle.std.proofs.Common.{ℕ, Float, ◌∙◌}
use Rattle.image.specs.Scratch.{cell_at}
use Rattle.guided.specs.Scratch.{detail_at}
use Rattle.guided_pixels.proofs.CellValues.{value_one}
use Rattle.guided_pixels.specs.Inner.Values.{value_at}
use Rattle.guided_pixels.proofs.values.ValueInputsLine.one.Goals as goal

pub returns : goal.returns
unfolding value_at detail_at of_bits of_int
returns c =
    let a = c.args in
    let t = a.self in
    let p = c.requires in
    let g : ℕ → ℕ → Float = cell_at a.s.now in
    c.limited.ensures ∙ value_one a.layout (g t.cells) (g t.slopes) (g t.least) (g t.greatest) _ _ _ a.x p.2 p.3 c.lerp-c.ensures c.lerp-a.ensures
