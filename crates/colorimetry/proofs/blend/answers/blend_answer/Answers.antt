-- Both row calls' answers, settled, are the blend's: `settled_blend`.
use Rattle.std.proofs.Common.{◌∙◌}
use Rattle.image.specs.Picture.{planes_seen}
use Rattle.reconstruction.specs.Reader.{side_of}
use Rattle.colorimetry.specs.Blends.{blend_call}
use Rattle.colorimetry.proofs.Settling.{settled_blend}
use Rattle.colorimetry.proofs.blend.answers.blend_answer.Goals as goal

pub returns : goal.returns
returns c =
    let a = c.args in
    let early = side_of a.early (planes_seen a.early_planes) a.early_s.now in
    let late = side_of a.late (planes_seen a.late_planes) a.late_s.now in
    c.settle.ensures
    ∙ settled_blend (blend_call a.row a.weight early late a.out.now) _ _ _ c.rgb_row_answer-a.ensures c.rgb_row_answer-b.ensures c.unlike.ensures
