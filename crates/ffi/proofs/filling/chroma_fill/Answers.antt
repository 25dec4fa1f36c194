-- Two cases by `no_such_way`: a switch or siting that stands for none is answered with nothing changed; else the promise is that of `fill`, once each
-- translated argument is replaced by what C's stands for.
use Rattle.std.proofs.Common.{refl, sym, ◌∙◌}
use Rattle.ffi.proofs.Strange.{numbered_strange, numbered_plain}
use Rattle.ffi.proofs.filling.chroma_fill.Goals as goal

pub returns-then-no_such_way : goal.returns-then-no_such_way
returns-then-no_such_way c =
    let e = sym c.no_such_way.ensures ∙ c.if-no_such_way.true in
    numbered_strange e (refl, refl)

pub returns : goal.returns
returns c =
    let e = sym c.no_such_way.ensures ∙ c.if-no_such_way.false in
    numbered_plain e (record { answer = c.fill.result; given = rw (sym c.to_layout.ensures, sym c.to_planes.ensures, sym c.to_upsampling.ensures, sym c.to_kernel.ensures) c.fill.ensures; number = c.number_of.ensures })
