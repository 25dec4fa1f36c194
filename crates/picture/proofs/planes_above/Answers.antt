-- The planes are not short (`planes_hold`); that one of their samples exceeds maxval says it of their picture (`planes_exceed`).
use Rattle.std.proofs.Common.{◌∙◌, ap}
use Rattle.image.specs.Picture.{bad_planes}
use Rattle.image.specs.Limits.{above_any}
use Rattle.image.proofs.Any.{planes_exceed}
use Rattle.picture.specs.Inner.Planes.{planes_from}
use Rattle.picture.proofs.Readings.{layout_sound, planes_hold}
use Rattle.picture.proofs.planes_above.Goals as goal

pub above_planes-requires : goal.above_planes-requires
above_planes-requires c =
    let o = layout_sound c.requires in
    (o.bytes_some, o.bytes_most, ap (bad_planes c.args.reading.layout) c.planes_from.ensures ∙ planes_hold c.requires)

pub returns : goal.returns
returns c =
    let a = c.args in
    c.above_planes.ensures ∙ ap (above_any a.reading.layout) c.planes_from.ensures ∙ planes_exceed a.reading.layout (planes_from a.planes.now a.reading)
