-- Each branch knows the range and the kernel, so that its kind's colour is that of the layout's range.
use Rattle.colour_rows.proofs.Colouring.{exact_is, fixed_is, studio_is}
use Rattle.colour_rows.proofs.rows.block_row.Goals as goal

pub returns-in-Studio-default : goal.returns-in-Studio-default
returns-in-Studio-default c =
    let a = c.args in
    rw (studio_is a.kernel a.lent.layout.maxval c.in-Studio-default.is-0) at c.row_by_blocks.ensures

pub returns-in-Full-Exact : goal.returns-in-Full-Exact
returns-in-Full-Exact c =
    let a = c.args in
    let f = c.in-Full-Exact in
    rw (exact_is a.kernel a.lent.layout.maxval f.is-0 f.is-1 (c.requires.0.exact f.is-1)) at c.row_by_blocks-in-Full-Exact.ensures

pub returns-in-Full-FixedPoint16 : goal.returns-in-Full-FixedPoint16
returns-in-Full-FixedPoint16 c =
    let a = c.args in
    let f = c.in-Full-FixedPoint16 in
    rw (fixed_is a.kernel a.lent.layout.maxval f.is-0 f.is-1) at c.row_by_blocks-in-Full-FixedPoint16.ensures
