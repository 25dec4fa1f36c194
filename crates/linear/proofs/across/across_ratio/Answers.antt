use Rattle.std.proofs.Common.{arith}
use Rattle.linear.proofs.Turns.{turns_fit}
use Rattle.linear.proofs.across.across_ratio.Goals as goal

pub across_turns-requires : goal.across_turns-requires
across_turns-requires c =
    let o = c.requires.0 in (o, turns_fit c.args.row _ _ o c.first_of-from.ensures (omega arith) (omega arith))
