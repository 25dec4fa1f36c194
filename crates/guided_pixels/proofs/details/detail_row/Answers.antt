use Rattle.std.proofs.Common.{◌∙◌}
use Rattle.guided_pixels.proofs.DetailRows.{detail_line_is, detail_ready}
use Rattle.image.specs.Samples.{seen}
use Rattle.guided_pixels.proofs.details.detail_row.Goals as goal

pub line_row-requires : goal.line_row-requires
line_row-requires c =
    let a = c.args in
    let h = detail_ready a.layout _ _ c.column_at-src.ensures c.requires.2 in
    (c.requires.0.sound, (c.requires.0, c.requires.1, h.1), h.0)

pub returns : goal.returns
returns c =
    let a = c.args in
    c.line_row.ensures ∙ detail_line_is a.layout (seen a.plane) a.y _ a.s.now c.column_at-src.ensures.is
