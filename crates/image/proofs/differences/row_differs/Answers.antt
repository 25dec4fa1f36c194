use Rattle.image.specs.Samples.{seen}
use Rattle.image.proofs.Blocks.{row_is}
use Rattle.image.proofs.differences.row_differs.Goals as goal

pub returns : goal.returns
returns c = let a = c.args in rw (c.bytes_differ.ensures, c.row_start-at.ensures.value, c.row_start-to.ensures.value) (row_is a.layout a.block (seen a.p) (seen a.q) c.requires.0 a.p.fit a.q.fit a.j)
