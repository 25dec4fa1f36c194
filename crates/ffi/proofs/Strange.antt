-- What a call answers by whether C's numbers stand for something: two laws for the calls that answer by a number (`Numbered`), two for those
-- that reply with a state (`Checked`) and two for the blend, which replies with two (`BlendChecked`). A proof of a call names its test and hands
-- over one of the two.
use Rattle.std.proofs.Common.{◌≡◌, refl, sym, ◌∙◌, Bool, true, false, true≢false, ℕ}
use Rattle.laws.specs.Refusals.{Answer}
use Rattle.guided.specs.Calls.{Reply}
use Rattle.ffi.specs.declared.types.ChromaReader.{ChromaReader}
use Rattle.ffi.specs.declared.types.ChromaReply.{ChromaReply}
use Rattle.colorimetry.specs.Blends.{BlendReply}
use Rattle.ffi.specs.declared.blends.ChromaBlendReply.{ChromaBlendReply}
use Rattle.ffi.specs.Calls.{Answered, Numbered, Replied, Checked}
use Rattle.ffi.specs.Blends.{BlendReplied, BlendChecked}

-- a test that was found true isn't false
not_both : {b : Bool} → b ≡ true → b ≡ false → ⊥
not_both e f = true≢false (sym e ∙ f)

pub numbered_strange : {s : Bool} {Kept : Type 0} {Given : Answer → Type 0} → s ≡ true → Kept → Numbered s Kept Given 255
numbered_strange e k = record { strange = λ _. (refl, k); plain = λ f. absurd (not_both e f) }

pub numbered_plain : {s : Bool} {Kept : Type 0} {Given : Answer → Type 0} {r : ℕ} → s ≡ false → Answered Given r → Numbered s Kept Given r
numbered_plain e a = record { strange = λ f. absurd (not_both f e); plain = λ _. a }

pub checked_strange : {s : Bool} {n : ℕ} {handed : ChromaReader} {Kept : Type 0} {Given : Reply → Type 0} → s ≡ true → Kept → Checked s n handed Kept Given (record { refusal = n; reader = handed })
checked_strange e k = record { strange = λ _. (refl, k); plain = λ f. absurd (not_both e f) }

pub checked_plain : {s : Bool} {n : ℕ} {handed : ChromaReader} {Kept : Type 0} {Given : Reply → Type 0} {r : ChromaReply} → s ≡ false → Replied handed Given r → Checked s n handed Kept Given r
checked_plain e a = record { strange = λ f. absurd (not_both f e); plain = λ _. a }

pub blend_strange : {s : Bool} {early late : ChromaReader} {Kept : Type 0} {Given : BlendReply → Type 0} → s ≡ true → Kept → BlendChecked s early late Kept Given (record { refusal = 1; early = early; late = late })
blend_strange e k = record { strange = λ _. (refl, k); plain = λ f. absurd (not_both e f) }

pub blend_plain : {s : Bool} {early late : ChromaReader} {Kept : Type 0} {Given : BlendReply → Type 0} {r : ChromaBlendReply} → s ≡ false → BlendReplied early late Given r → BlendChecked s early late Kept Given r
blend_plain e a = record { strange = λ f. absurd (not_both f e); plain = λ _. a }
