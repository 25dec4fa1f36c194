use Rattle.std.proofs.Common.{arith}
use Rattle.guided_down.proofs.nines.U8Sample.pick.Goals as goal

pub returns-in-Smaller : goal.returns-in-Smaller
returns-in-Smaller c =
    rw c.in-Smaller.is (omega arith)

pub returns-in-Greater : goal.returns-in-Greater
returns-in-Greater c =
    rw c.in-Greater.is (omega arith)
