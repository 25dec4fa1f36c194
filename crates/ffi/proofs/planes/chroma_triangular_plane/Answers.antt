use Rattle.std.proofs.Common.{refl, sym, ◌∙◌}
use Rattle.ffi.proofs.Strange.{numbered_strange, numbered_plain}
use Rattle.ffi.proofs.planes.chroma_triangular_plane.Goals as goal

pub returns-then-strange_layout : goal.returns-then-strange_layout
returns-then-strange_layout c =
    let e = sym c.strange_layout.ensures ∙ c.if-strange_layout.true in
    numbered_strange e refl

pub returns : goal.returns
returns c =
    let e = sym c.strange_layout.ensures ∙ c.if-strange_layout.false in
    numbered_plain e (record { answer = c.triangular_plane.result; given = rw (sym c.to_layout.ensures) c.triangular_plane.ensures; number = c.number_of.ensures })
