-- Two rows are written one after another, each as its callee promises; `chroma_steps` takes the two to `chroma_part`.
-- It wants luma's cells to lie before the component's buffers, since the products read them after a row was stored: by the order of the buffers.
use Rattle.guided_across.proofs.ReadBack.{chroma_steps}
use Rattle.guided.proofs.Places.{first_few, slot_order}
use Rattle.guided.specs.Scratch.{first_of}
use Rattle.guided_across.specs.Inner.Sums.{products_at, three_row}
use Rattle.std.proofs.Common.{◌+◌, refl, ap, ◌∙◌, arith, le_trans}
use Rattle.guided_across.proofs.Areas.{row_within}
use Rattle.image.specs.Samples.{seen}
use Rattle.guided_across.proofs.across.chroma_part.Goals as goal

pub overflow_mul-j : goal.overflow_mul-j
overflow_mul-j c =
    let a = c.args in omega (arith, row_within a.layout a.plane.bytes.now a.plane.stride a.layout.cw a.layout.ch a.j c.requires.chroma_cells.plane (omega arith))

pub sum_row-requires : goal.sum_row-requires
sum_row-requires c =
    let a = c.args in
    let few = first_few a.k in
    let behind = slot_order a.layout 0 (first_of a.k) a.j (omega arith) in
    let onward = slot_order a.layout (first_of a.k) (first_of a.k + 1) a.j (omega arith) in
    let y = c.row_at-y.ensures.is in
    let d = c.row_at-c.ensures.is in
    let e = c.row_at-products.ensures.is in
    let f = c.row_at-products.ensures.fits in
    (c.requires.chroma_cells.sound.cw_some, (omega arith, omega arith), omega arith)

pub returns : goal.returns
returns c =
    let a = c.args in
    let l = a.layout in
    let y = c.row_at-y in
    let d = c.row_at-c in
    let e = c.row_at-products in
    let few = first_few a.k in
    let behind = slot_order l 0 (first_of a.k) a.j (omega arith) in
    c.sum_row.ensures
    ∙ ap (three_row (products_at y.result d.result) l.cw e.result) c.load_row.ensures
    ∙ chroma_steps l (seen a.plane) a.k a.j (first_of a.k) y.result d.result e.result a.s.now refl y.ensures.is d.ensures.is e.ensures.is (omega (arith, y.ensures.is, d.ensures.is)) (le_trans d.ensures.fits c.requires.j_lt_ch.1)
