use Rattle.image.proofs.Blocks.{above_reaches, below_reaches}
use Rattle.image.specs.Samples.{seen}
use Rattle.image.proofs.differences.rows_differ.Goals as goal

pub block_differs-up-requires : goal.block_differs-up-requires
block_differs-up-requires c =
    let a = c.args in
    (c.requires.0, above_reaches a.layout a.cells (seen a.p) c.requires.0 c.requires.1 c.requires.3, above_reaches a.layout a.cells (seen a.q) c.requires.0 c.requires.2 c.requires.3)

pub block_differs-down-requires : goal.block_differs-down-requires
block_differs-down-requires c =
    let a = c.args in
    (c.requires.0, below_reaches a.layout a.cells (seen a.p) c.requires.0 c.requires.1 c.requires.3, below_reaches a.layout a.cells (seen a.q) c.requires.0 c.requires.2 c.requires.3)
