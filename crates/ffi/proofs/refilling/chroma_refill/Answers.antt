-- Two cases by `no_such_way`, as in chroma_fill: a switch or siting that stands for none is answered with nothing changed; else the promise is that of
-- `refill`, once each translated argument is replaced by what C's stands for.
use Rattle.std.proofs.Common.{refl, sym, ◌∙◌}
use Rattle.ffi.proofs.Strange.{numbered_strange, numbered_plain}
use Rattle.ffi.proofs.refilling.chroma_refill.Goals as goal

pub returns-then-no_such_way : goal.returns-then-no_such_way
returns-then-no_such_way c =
    let e = sym c.no_such_way.ensures ∙ c.if-no_such_way.true in
    numbered_strange e (refl, refl)

pub returns : goal.returns
returns c =
    let e = sym c.no_such_way.ensures ∙ c.if-no_such_way.false in
    numbered_plain e (record { answer = c.refill.result; given = rw (sym c.to_layout.ensures, sym c.to_planes.ensures, sym c.to_planes-2.ensures, sym c.to_rectangle.ensures, sym c.to_kernel.ensures) c.refill.ensures; number = c.number_of.ensures })
