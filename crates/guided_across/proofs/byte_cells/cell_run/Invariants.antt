-- After b blocks of sixteen s is s₀ with that many means, put from dst on; `put_block` is a turn, and the last block, which may overlap.
use Rattle.std.proofs.Common.{◌≡◌, ◌*◌}
use Rattle.laws.specs.Lists.{put}
use Rattle.guided_across.specs.Inner.ByteCells.{cell_mean}
use Rattle.guided_across.proofs.byte_cells.cell_run.Given as goal

abbrev pub invariant-loop-b : goal.invariant-loop-b
invariant-loop-b l = l.s ≡ put l.initial.s l.dst (l.b * 16) (cell_mean l.plane.bytes.now l.top l.plane.stride l.m)
