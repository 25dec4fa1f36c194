-- What C gets of a reader's reply. Definitions only.
use Rattle.std.specs.Prelude.{cond}
use Rattle.laws.specs.Refusals.{accepted}
use Rattle.guided.specs.Calls.{Reply}
use Rattle.ffi.specs.declared.types.ChromaReader.{ChromaReader}
use Rattle.ffi.specs.declared.types.ChromaReply.{ChromaReply}
use Rattle.ffi.specs.Types.{answer_number, chroma_reader}

-- a reply in C's form: the number of its answer, and its state; a refused call hands back what it was handed
unfoldable pub reply_to : ChromaReader → Reply → ChromaReply
reply_to handed p = record { refusal = answer_number p.answer; reader = cond (accepted p.answer) (chroma_reader p.reader) handed }
