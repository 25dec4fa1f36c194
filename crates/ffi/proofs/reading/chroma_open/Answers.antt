use Rattle.std.proofs.Common.{sym, ◌∙◌}
use Rattle.ffi.proofs.Strange.{checked_strange, checked_plain}
use Rattle.guided.specs.Calls.{reply}
use Rattle.ffi.proofs.reading.chroma_open.Goals as goal

pub returns-then-strange_layout : goal.returns-then-strange_layout
returns-then-strange_layout c =
    let e = sym c.strange_layout.ensures ∙ c.if-strange_layout.true in
    checked_strange e tt

pub returns : goal.returns
returns c =
    let e = sym c.strange_layout.ensures ∙ c.if-strange_layout.false in
    checked_plain e (record { reply = reply c.open-answer.result c.open-answer.new.reader; given = rw (sym c.to_layout.ensures, sym c.to_planes.ensures, sym c.to_reader-state.ensures) c.open-answer.ensures; is = c.reply_to.ensures })
