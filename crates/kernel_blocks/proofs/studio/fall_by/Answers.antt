use Rattle.kernel_blocks.proofs.Lumas.{lowered_held}
use Rattle.std.proofs.Common.{◌∙◌}
use Rattle.kernel_blocks.proofs.Shades.{fall_byte, parted_less}
use Rattle.kernel_blocks.proofs.studio.fall_by.Goals as goal

pub fall_near-requires : goal.fall_near-requires
fall_near-requires c =
    let p = c.requires in (parted_less p.0, p.1, p.2)

pub returns-then-doubt-eq0 : goal.returns-then-doubt-eq0
returns-then-doubt-eq0 c =
    let p = c.requires in
    record { is = λ m n h k. c.limit_sum.ensures ∙ rw c.fall_near.ensures.0 (fall_byte p.0 h k (lowered_held c.lower.ensures) (p.3 c.if-doubt-eq0.true)) }
