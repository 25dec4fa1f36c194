use Rattle.std.proofs.Common.{◌≡◌, false}
use Rattle.image.specs.Limits.{any_of}
use Rattle.image.proofs.Any.{row_above}
use Rattle.image.specs.Samples.{seen}
use Rattle.image.proofs.limits.plane_above.Given as goal

abbrev pub invariant-loop-y : goal.invariant-loop-y
invariant-loop-y l = any_of l.y (row_above l.layout l.w l.h (seen l.plane)) ≡ false
