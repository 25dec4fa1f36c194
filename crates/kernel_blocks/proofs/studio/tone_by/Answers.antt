use Rattle.kernel_blocks.proofs.Lumas.{lowered_held}
use Rattle.std.proofs.Common.{◌∙◌, arith}
use Rattle.kernel_blocks.proofs.Shades.{tone_byte, tone_small, parted_less}
use Rattle.kernel_blocks.proofs.studio.tone_by.Goals as goal

pub tone_near-requires : goal.tone_near-requires
tone_near-requires c =
    let p = c.requires in ((_, p.0), parted_less p.1, p.2)

pub returns-then-doubt-eq0 : goal.returns-then-doubt-eq0
returns-then-doubt-eq0 c =
    let p = c.requires in
    record { is = λ n h. c.limit_sum.ensures ∙ rw c.tone_near.ensures.0 (tone_byte p.1 p.0 h (lowered_held c.lower.ensures) (p.3 c.if-doubt-eq0.true)) }

pub studio_chroma-requires : goal.studio_chroma-requires
studio_chroma-requires c =
    let t = tone_small c.requires.0 in let i = c.in_256ths.ensures.0 in (omega arith, omega arith)
