use Rattle.image.proofs.Blocks.{left_reaches, right_reaches}
use Rattle.image.specs.Samples.{seen}
use Rattle.image.proofs.differences.sides_differ.Goals as goal

pub block_differs-left-requires : goal.block_differs-left-requires
block_differs-left-requires c =
    let a = c.args in
    (c.requires.0, left_reaches a.layout a.cells (seen a.p) c.requires.0 c.requires.1 c.requires.3, left_reaches a.layout a.cells (seen a.q) c.requires.0 c.requires.2 c.requires.3)

pub block_differs-right-requires : goal.block_differs-right-requires
block_differs-right-requires c =
    let a = c.args in
    (c.requires.0, right_reaches a.layout a.cells (seen a.p) c.requires.0 c.requires.1 c.requires.3, right_reaches a.layout a.cells (seen a.q) c.requires.0 c.requires.2 c.requires.3)
