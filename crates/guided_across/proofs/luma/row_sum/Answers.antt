use Rattle.std.proofs.Common.{◌+◌, arith}
use Rattle.guided_across.proofs.Areas.{pixel_inside}
use Rattle.guided_across.proofs.luma.row_sum.Goals as goal

pub overflow_mul-y : goal.overflow_mul-y
overflow_mul-y c =
    let a = c.args in omega (arith, pixel_inside a.layout a.plane.bytes.now a.plane.stride (a.x + c.loop-i.i) a.y c.requires.luma_pixels (omega arith) (omega arith))
