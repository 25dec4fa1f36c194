use Rattle.std.proofs.Common.{refl, sym, ◌∙◌}
use Rattle.ffi.proofs.Strange.{checked_strange, checked_plain}
use Rattle.guided.specs.Calls.{reply}
use Rattle.ffi.proofs.reading.chroma_rgb_row.Goals as goal

pub returns-then-strange_reader : goal.returns-then-strange_reader
returns-then-strange_reader c =
    let e = sym c.strange_reader.ensures ∙ c.if-strange_reader.true in
    checked_strange e (refl, refl)

pub returns : goal.returns
returns c =
    let e = sym c.strange_reader.ensures ∙ c.if-strange_reader.false in
    checked_plain e (record { reply = reply c.rgb_row-answer.result c.rgb_row-answer.new.reader; given = rw (sym c.to_reader-state.ensures, sym c.to_planes.ensures) c.rgb_row-answer.ensures; is = c.reply_to.ensures })
