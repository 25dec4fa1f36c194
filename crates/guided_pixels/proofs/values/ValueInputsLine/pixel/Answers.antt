-- `value_is` takes the two lerped numbers, the detail and the two limits to `value_of`, in the order in which it is written.
use Rattle.std.proofs.Common.{ℕ, Float}
use Rattle.image.specs.Scratch.{cell_at}
use Rattle.guided.specs.Scratch.{detail_at}
use Rattle.guided_pixels.proofs.ValueRows.{value_is}
use Rattle.guided_pixels.specs.Inner.Values.{value_at}
use Rattle.guided_pixels.proofs.values.ValueInputsLine.pixel.Goals as goal

pub returns : goal.returns
unfolding value_at detail_at
returns c =
    let a = c.args in
    let t = a.self in
    let g : ℕ → ℕ → Float = cell_at a.s.now in
    value_is a.layout (g t.cells) (g t.slopes) (g t.least) (g t.greatest) _ a.x _ _ _ c.across_pixel-c.ensures c.across_pixel-a.ensures c.limited.ensures
