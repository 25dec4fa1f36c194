use Rattle.std.proofs.Common.{sym, arith, length-take-le}
use Rattle.picture.proofs.Rooms.{refusal_fits}
use Rattle.ycbcrtoppm.proofs.write_outcome.Goals as goal

pub slice_bounds-write_all-end : goal.slice_bounds-write_all-end
slice_bounds-write_all-end g c =
    sym (length-take-le _ _ (rw c.in-Ok.is at c.requires))

pub slice_bounds-bytes-end : goal.slice_bounds-bytes-end
slice_bounds-bytes-end g c =
    let h = refusal_fits _ _ c.refusal_line-line.ensures in omega arith

pub slice_bounds-write_all-end-in-Err : goal.slice_bounds-write_all-end-in-Err
slice_bounds-write_all-end-in-Err g c =
    let h = refusal_fits _ _ c.refusal_line-line.ensures in sym (length-take-le _ _ (omega arith))
