-- What C gets of a blend. Definitions only.
use Rattle.std.specs.Prelude.{◌≡◌, Bool, true, false, cond}
use Rattle.laws.specs.Refusals.{accepted}
use Rattle.colorimetry.specs.Blends.{BlendReply}
use Rattle.ffi.specs.declared.types.ChromaReader.{ChromaReader}
use Rattle.ffi.specs.declared.blends.ChromaBlendReply.{ChromaBlendReply}
use Rattle.ffi.specs.Types.{answer_number, chroma_reader}

-- a reply in C's form: the number of its answer, and both states; a refused call hands back what it was handed
unfoldable pub blend_reply_to : ChromaReader → ChromaReader → BlendReply → ChromaBlendReply
blend_reply_to early late p = record {
  refusal = answer_number p.answer;
  early = cond (accepted p.answer) (chroma_reader p.early) early;
  late = cond (accepted p.answer) (chroma_reader p.late) late;
}

-- a reply that stands for the Rattle call's, of which `Given` holds
pub record BlendReplied (early late : ChromaReader) (Given : BlendReply → Type 0) (r : ChromaBlendReply) : Type 0 where
  pub reply : BlendReply
  pub given : Given reply
  pub is : r ≡ blend_reply_to early late reply

-- what `chroma_blend_row` promises: 1 with nothing changed (`Kept`) where one of C's states stands for none, and else the Rattle call's reply
pub record BlendChecked (strangely : Bool) (early late : ChromaReader) (Kept : Type 0) (Given : BlendReply → Type 0) (r : ChromaBlendReply) : Type 0 where
  pub strange : strangely ≡ true → (r ≡ record { refusal = 1; early = early; late = late }) × Kept
  pub plain : strangely ≡ false → BlendReplied early late Given r
