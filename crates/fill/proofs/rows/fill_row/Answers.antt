-- The contract is the two calls' contracts, one after the other. The hard steps are the products: a row's bytes and its beginning are within
-- bounds by the limits of a layout (`row_bytes_is`, `row_begins`), and the row fits out (`row_room`).
use Rattle.std.proofs.Common.{ap, ◌∙◌, List, ◌+◌, ◌*◌, arith, Float, length}
use Rattle.guided.proofs.Places.{front_fits}
use Rattle.colour_rows.specs.Inner.Colours.{ranged_row}
use Rattle.fill.proofs.Chroma.{length_fill}
use Rattle.fill.proofs.Painted.{row_bytes_is, row_begins, row_room}
use Rattle.image.specs.Samples.{seen}
use Rattle.image.specs.Picture.{planes_seen}
use Rattle.fill.proofs.rows.fill_row.Goals as goal

pub overflow_mul-at : goal.overflow_mul-at
overflow_mul-at c =
    omega (arith, row_bytes_is c.requires.fill_lent)

pub overflow_mul-at-2 : goal.overflow_mul-at-2
overflow_mul-at-2 c =
    omega (arith, row_begins c.requires.fill_lent (c.args.first + c.args.n) c.requires.n_bound)

pub chroma_row-requires : goal.chroma_row-requires
chroma_row-requires c =
    let p = c.requires in
    record { chroma_lent = p.fill_lent.lent; n_bound = (p.n_bound, p.fill_lent.scratch) }

pub invariant_of-lent : goal.invariant_of-lent
invariant_of-lent c =
    let p = c.requires.fill_lent in
    let a = c.args in
    let e = ap length c.chroma_row.ensures ∙ length_fill a.upsampling a.layout (planes_seen a.planes) a.first a.n a.s.now in
    let f = front_fits a.layout in
    let g = p.scratch in
    record { luma = record { shaped = p.lent.shaped; plane = p.lent.luma; inside = c.requires.n_bound }; chroma = omega arith }

pub colour_row-requires : goal.colour_row-requires
colour_row-requires c =
    let p = c.requires.fill_lent in
    (p.size_least, p.size_most, row_room p (c.args.first + c.args.n) c.requires.n_bound)

pub returns : goal.returns
returns c =
    let a = c.args in
    let e = c.chroma_row.ensures in
    record { s_after = e; out_after = c.colour_row.ensures ∙ ap (λ (z : List Float). ranged_row a.kernel a.layout (seen a.planes.y) (a.first + a.n) z ((a.first + a.n) * (a.layout.w * a.size)) a.size a.out.now) e }
