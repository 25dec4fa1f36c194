use Rattle.std.proofs.Common.{sym, arith, length-take-le}
use Rattle.picture.proofs.Rooms.{refusal_fits}
use Rattle.test_picture.proofs.refused_sum.Goals as goal

pub slice_bounds-bytes-end : goal.slice_bounds-bytes-end
slice_bounds-bytes-end c =
    let h = refusal_fits _ _ c.refusal_line-line.ensures in omega arith

pub slice_bounds-sum_bytes-end : goal.slice_bounds-sum_bytes-end
slice_bounds-sum_bytes-end c =
    let h = refusal_fits _ _ c.refusal_line-line.ensures in sym (length-take-le _ _ (omega arith))
