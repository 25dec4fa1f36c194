use Rattle.std.proofs.Common.{◌∙◌, ◌*◌, arith}
use Rattle.laws.proofs.Lists.{rows_none, rows_more, rows_end}
use Rattle.image.specs.Picture.{picture_of}
use Rattle.guided_plane.specs.Plane.{planes_with, guided_plane}
use Rattle.guided_rows.proofs.GuidedRows.{advanced_none, advanced_more, advanced_end}
use Rattle.guided_plane.proofs.PlaneRows.{stored_is}
use Rattle.image.specs.Samples.{seen}
use Rattle.guided_plane.proofs.plane.plane_rows.Goals as goal

pub loop-row-init : goal.loop-row-init
loop-row-init c =
    (rows_none _ _ _, advanced_none _ _ _ _)

pub plane_row-requires : goal.plane_row-requires
plane_row-requires c =
    let p = c.requires in
    record { lent = p.lent; row_lt_h = (omega arith, rw c.loop-row.invariant.1.len p.layout_in_bounds.0, rw c.loop-row.invariant.0.len p.layout_in_bounds.1) }

pub loop-row-preserved : goal.loop-row-preserved
unfolding picture_of
loop-row-preserved c =
    let i = c.loop-row in (
      rows_more i.invariant.0 _ (c.plane_row.ensures.out_after ∙ stored_is ((picture_of c.args.layout (planes_with (seen c.args.y) (seen c.args.c)))) c.requires.lent.sound i.row (i.row * c.args.layout.w) c.args.s.now i.s i.out i.invariant.1 c.requires.layout_in_bounds.0 (omega arith)),
      advanced_more i.invariant.1 _ c.plane_row.ensures.s_after,
    )

pub returns : goal.returns
unfolding guided_plane picture_of
returns c =
    record { out_after = rows_end c.loop-row.invariant.0 _ (omega arith) (omega arith); s_after = advanced_end c.loop-row.invariant.1 _ (omega arith) (omega arith) }
