use Rattle.guided_pixels.proofs.DownLerps.{down_ready}
use Rattle.guided_pixels.proofs.columns.down_row.Goals as goal

pub lerp_row-requires : goal.lerp_row-requires
lerp_row-requires c =
    let t = c.plain_tap-t.result in
    let a = c.args in
    down_ready a.layout a.buffer _ t.i0 t.i1 _ _ _ _ c.column_at-dst.ensures c.row_at-a.ensures.is c.row_at-b.ensures.is c.requires.2
