use Rattle.std.proofs.Common.{◌≡◌, ◌∙◌, Ok, Err, Bool, true, false, is_err, refl, sym}
use Rattle.laws.specs.Refusals.{Answer}
use Rattle.ffi.specs.Blends.{blend_reply_to}
use Rattle.ffi.proofs.blends.blend_reply_to.Goals as goal

accepted : (a : Answer) → is_err a ≡ false → a ≡ Ok tt
accepted (Ok tt) e = refl
accepted (Err why) e = let z : ◌≡◌ {A = Bool} true false = e in cc

pub returns : goal.returns
unfolding blend_reply_to
returns c = rw (accepted _ (sym c.is_err.ensures.value ∙ c.if-is_err.false), c.from_reader.ensures, c.from_reader-2.ensures) refl
