use Rattle.std.proofs.Common.{◌-◌, ◌*◌, refl, arith}
use Rattle.std.specs.Float.{nan}
use Rattle.guided_window.proofs.Puts.{put_block}
use Rattle.guided_down.proofs.nines.byte_run.Goals as goal

pub loop-b-preserved : goal.loop-b-preserved
loop-b-preserved c =
    put_block _ _ _ _ (c.loop-b.b * 16) (c.loop-b.b * 16) 16 _ _ _ nan c.loop-b.invariant c.put_nines.ensures (λ j h. refl) (omega arith) (omega arith) (omega arith) (omega arith)

pub returns : goal.returns
returns c =
    put_block _ _ _ _ (c.loop-b.b * 16) (c.args.n - 16) 16 _ _ _ nan c.loop-b.invariant c.put_nines-2.ensures (λ j h. refl) (omega arith) (omega arith) (omega arith) (omega arith)
