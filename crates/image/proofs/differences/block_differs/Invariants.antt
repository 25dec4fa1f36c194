use Rattle.std.proofs.Common.{◌≡◌, false}
use Rattle.image.specs.Limits.{any_of}
use Rattle.image.proofs.Blocks.{row_differs}
use Rattle.image.specs.Samples.{seen}
use Rattle.image.proofs.differences.block_differs.Given as goal

abbrev pub invariant-loop-j : goal.invariant-loop-j
invariant-loop-j l = any_of l.j (row_differs l.layout l.block (seen l.p) (seen l.q)) ≡ false
