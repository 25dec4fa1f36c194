-- What is stored are the pixels of the blocks so far, up to the row's end (`Stored` of kernel_blocks).
use Rattle.std.proofs.Common.{◌*◌, min}
use Rattle.kernel_blocks.proofs.Stored.{Stored}
use Rattle.colour_rows.specs.Inner.Colours.{lent_pixel}
use Rattle.colour_rows.proofs.blocks.by_threes.Given as goal

abbrev pub invariant-loop-i : goal.invariant-loop-i
invariant-loop-i g l = Stored l.initial.out l.out l.at 3 (min (l.i * 16) l.lent.layout.w) (lent_pixel g.K.Kind.colour l.lent)
