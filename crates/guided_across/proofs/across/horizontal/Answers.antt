-- Two returns, for Cb alone and for both: the parts' promises are chained, then `horizontal_one` or `horizontal_both` takes them to the definition.
-- The hard part is in these two laws (ReadBack): a component's part reads back the luma that the first part put.
use Rattle.guided_across.proofs.ReadBack.{horizontal_one, horizontal_both}
use Rattle.std.proofs.Common.{arith}
use Rattle.guided_across.proofs.across.horizontal.Goals as goal

pub luma_part-requires : goal.luma_part-requires
luma_part-requires c =
    let o = c.requires.lent in
    record { luma_pixels = record { sound = o.sound; plane = o.luma }; j_lt_ch = omega arith }

pub chroma_part-requires : goal.chroma_part-requires
chroma_part-requires c =
    let o = c.requires.lent in
    record { chroma_cells = record { sound = o.sound; plane = o.cb }; j_lt_ch = omega arith }

pub returns-in_default : goal.returns-in_default
returns-in_default c =
    rw (c.chroma_part.ensures, c.luma_part.ensures, c.in_default.is)
    (horizontal_one _ _ _ _ (omega arith) (omega arith, c.requires.lent.sound.cw_most))

pub chroma_part-requires-2 : goal.chroma_part-requires-2
chroma_part-requires-2 c =
    let o = c.requires.lent in
    record { chroma_cells = record { sound = o.sound; plane = o.cr c.in-Both.is }; j_lt_ch = omega arith }

pub returns : goal.returns
returns c =
    rw (c.chroma_part-2.ensures, c.chroma_part.ensures, c.luma_part.ensures, c.in-Both.is)
    (horizontal_both _ _ _ _ (omega arith) (omega arith, c.requires.lent.sound.cw_most))
