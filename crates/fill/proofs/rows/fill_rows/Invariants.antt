-- The loop's invariant is that out is `pixel_rows` so far (`Painted`) and scratch is `fill_scratch` so far (`Scratched`). `loop-again` carries a
-- turn: by `row_is` the colour row that was made from scratch is the picture's.
use Rattle.image.specs.Picture.{picture_of, planes_seen}
use Rattle.fill.specs.Fill.{fill_colour}
use Rattle.fill.proofs.Chroma.{Scratched}
use Rattle.fill.proofs.Painted.{Painted}
use Rattle.fill.proofs.rows.fill_rows.Given as goal

abbrev pub invariant-loop-n : goal.invariant-loop-n
invariant-loop-n l = Painted l.layout.w l.size (fill_colour l.upsampling l.kernel (picture_of l.layout (planes_seen l.planes))) l.a l.n l.initial.out l.out
    × Scratched l.upsampling l.layout (planes_seen l.planes) l.a l.n l.initial.s l.s
