use Rattle.std.proofs.Common.{refl, sym, ◌∙◌, arith}
use Rattle.image.specs.Limits.{any_of}
use Rattle.image.proofs.Blocks.{block_found, block_none, block_more}
use Rattle.image.specs.Samples.{seen}
use Rattle.image.proofs.differences.block_differs.Goals as goal

pub loop-j-init : goal.loop-j-init
unfolding any_of
loop-j-init c =
    refl

pub returns-then-row_differs : goal.returns-then-row_differs
returns-then-row_differs c =
    block_found c.args.layout c.args.block (seen c.args.p) (seen c.args.q) c.loop-j.j c.loop-j-test.true (sym c.row_differs.ensures ∙ c.if-row_differs.true)

pub loop-j-preserved : goal.loop-j-preserved
loop-j-preserved c =
    block_more c.args.layout c.args.block (seen c.args.p) (seen c.args.q) c.loop-j.j c.loop-j.invariant (sym c.row_differs.ensures ∙ c.if-row_differs.false)

pub returns : goal.returns
returns c =
    block_none c.args.layout c.args.block (seen c.args.p) (seen c.args.q) c.loop-j.j (omega arith) c.loop-j.invariant
