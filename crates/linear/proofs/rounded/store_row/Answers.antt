use Rattle.std.proofs.Common.{arith}
use Rattle.laws.proofs.Lists.{run_end}
use Rattle.linear.specs.Inner.Stores.{store_run}
use Rattle.linear.proofs.StoredRows.{store_more}
use Rattle.linear.proofs.rounded.store_row.Goals as goal

pub loop-b-preserved : goal.loop-b-preserved
loop-b-preserved c =
    store_more c.args.s.now c.args.src c.args.maxval c.args.at c.loop-b.invariant _ _ 16 _ _ c.store_block.ensures (omega arith) (omega arith) (omega arith)

pub returns : goal.returns
unfolding store_run
returns c =
    run_end (store_more c.args.s.now c.args.src c.args.maxval c.args.at c.loop-b.invariant _ c.args.n _ _ _ c.store_each.ensures (omega arith) (omega arith) (omega arith)) c.args.n (omega arith) (omega arith)
