-- The loop's invariant is that out has the guided samples in its first rows (`Rows`) and scratch is that after these rows (`Advanced`). `loop-
-- again` carries a turn: by `stored_is` the row that was stored from scratch is the row of the definition.
use Rattle.std.proofs.Common.{[], ◌∷◌}
use Rattle.laws.proofs.Lists.{Rows}
use Rattle.image.specs.declared.chroma.Chroma.TheVariants.{Cb}
use Rattle.image.specs.Picture.{picture_of}
use Rattle.fround.specs.Rounding.{round_clamped}
use Rattle.guided.specs.Guided.{guided_sample}
use Rattle.guided_plane.specs.Plane.{planes_with}
use Rattle.guided_rows.proofs.GuidedRows.{Advanced}
use Rattle.image.specs.Samples.{seen}
use Rattle.guided_plane.proofs.plane.plane_rows.Given as goal

abbrev pub invariant-loop-row : goal.invariant-loop-row
invariant-loop-row l =
    Rows l.initial.out l.out l.layout.w l.row (λ n x. round_clamped l.layout.maxval (guided_sample (picture_of l.layout (planes_with (seen l.y) (seen l.c))) Cb n x))
    × Advanced (picture_of l.layout (planes_with (seen l.y) (seen l.c))) (Cb ∷ []) 0 l.row l.initial.s l.s
