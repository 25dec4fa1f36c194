-- Blocks are `byte_cells`: a cell's pairs of bytes are its pixels. `cell_run` asks that each of their rows ends within the plane (`row_within`).
use Rattle.std.proofs.Common.{◌≡◌, ℕ, ◌+◌, ◌*◌, sym, ap, ◌∙◌, arith}
use Rattle.guided_across.proofs.Areas.{byte_cells, cell_down, full_cells, row_within}
use Rattle.image.specs.Samples.{seen}
use Rattle.guided_across.proofs.luma.luma_head.Goals as goal

pub cell_run-requires : goal.cell_run-requires
cell_run-requires c =
    let a = c.args in
    let l = a.layout in
    let p = c.requires.luma_pixels in
    let o = p.sound in
    let down = cell_down l o a.j (omega arith) in
    let among = full_cells l o c.if-layout-ne2.false in
    let e = c.min-m.ensures in
    let b : l.w * l.sample_bytes ≡ l.w * 1 = ap (λ (n : ℕ). l.w * n) c.if-layout-ne1.false in
    (omega arith, omega arith, omega arith, λ dy h. let r = row_within l a.plane.bytes.now a.plane.stride l.w l.h (a.j * l.rv + dy) p.plane (omega arith) in omega arith, omega arith)

pub returns : goal.returns
returns c =
    let a = c.args in (
      full_cells a.layout c.requires.luma_pixels.sound c.if-layout-ne2.false,
      c.cell_run.ensures ∙ byte_cells a.layout (seen a.plane) a.j c.min-m.result a.dst a.s.now c.if-layout-ne2.false c.if-layout-ne1.false (sym c.min-m.ensures),
    )
