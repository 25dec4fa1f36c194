-- `extreme_at` gives the extreme of whole numbers, and the definition asks for that of floats: `whole_is`.
use Rattle.std.proofs.Common.{sym, ap, ◌∙◌}
use Rattle.laws.specs.Floats.{f32}
use Rattle.guided_window.proofs.Puts.{put_more}
use Rattle.guided_down.proofs.Wholes.{whole_is}
use Rattle.image.specs.Samples.{seen}
use Rattle.guided_down.proofs.extremes.extreme_run.Goals as goal

pub loop-i-preserved : goal.loop-i-preserved
loop-i-preserved c =
    let a = c.args in
    put_more _ _ _ _ _ _ c.loop-i.invariant (c.whole.ensures ∙ ap f32 (c.from.ensures ∙ c.extreme_at.ensures) ∙ sym (whole_is a.layout (seen a.plane) a.pick a.plane.fit a.j _))
