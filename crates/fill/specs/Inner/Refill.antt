-- The tests of a refill in the parts in which its functions look at them. Definitions only.
use Rattle.std.specs.Prelude.{true, ◌||◌, List, [], ◌∷◌, ◌++◌, ◌*◌, ltb, length}
use Rattle.laws.specs.Refusals.{Test}
use Rattle.laws.specs.Numbers.{outside_of}
use Rattle.image.specs.declared.layout.Layout.{Layout}
use Rattle.image.specs.Tests.{bad_siting, tests_for}
use Rattle.image.specs.Picture.{bad_planes, Planes}
use Rattle.image.specs.Limits.{above_any}
use Rattle.image.specs.Rectangles.{past_cells}
use Rattle.image.specs.Scratch.{scratch_need}
use Rattle.kernels.specs.declared.kernel.YcbcrKernel.{YcbcrKernel}
use Rattle.fill.specs.Tests.{is_fixed}
use Rattle.fill.specs.Refill.{RefillCall}
use Rattle.laws.specs.declared.refusal.Refusal.TheVariants.{BadPlane, BadPixelSize, ShortScratch, ShortOutput, NotCentred, AboveMaxval, BadRectangle}

-- of the layout and both sets of planes
unfoldable pub planes_tests : YcbcrKernel → Layout → Planes → Planes → List Test
planes_tests kernel l old new = tests_for true (is_fixed kernel) l ++ ((bad_siting l, NotCentred) ∷ (bad_planes l old || bad_planes l new, BadPlane) ∷ (above_any l old || above_any l new, AboveMaxval) ∷ [])

-- all but the last, 21's
unfoldable pub lent_tests : RefillCall → List Test
lent_tests c =
    let l = c.layout in
    planes_tests c.kernel l c.old c.new
    ++ ((outside_of 3 4 c.size, BadPixelSize) ∷ (ltb (length c.scratch) (scratch_need l), ShortScratch) ∷ (past_cells l c.cells, BadRectangle) ∷ (ltb (length c.out) (l.w * l.h * c.size), ShortOutput) ∷ [])
