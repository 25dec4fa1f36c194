use Rattle.std.proofs.Common.{◌∙◌}
use Rattle.image.proofs.Blocks.{whole_reaches, whole_is}
use Rattle.image.specs.Samples.{seen}
use Rattle.image.proofs.differences.luma_differs.Goals as goal

pub block_differs-requires : goal.block_differs-requires
block_differs-requires c =
    let l = c.args.layout in
    (c.requires.0, whole_reaches l (seen c.args.p) c.requires.0 c.requires.1, whole_reaches l (seen c.args.q) c.requires.0 c.requires.2)

pub returns : goal.returns
returns c =
    let l = c.args.layout in
    c.block_differs.ensures ∙ whole_is l l.w l.h (seen c.args.p) (seen c.args.q)
