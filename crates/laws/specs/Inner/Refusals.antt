-- Refusals in steps: a call's tests asked behind an answer, in the order of its list, all at once or test by test. Definitions only.
use Rattle.std.specs.Prelude.{Bool, List, [], ◌∷◌, Ok, Err}
use Rattle.laws.specs.declared.refusal.Refusal.{Refusal}
use Rattle.laws.specs.Refusals.{Answer, Test, first, pick_answer}

-- an answer with the tests of a list asked behind it: a refusal stays
abbrev pub further : Answer → List Test → Answer
further (Ok _) ts = first ts
further (Err why) ts = Err why

-- an answer with one test more: a refusal stays, and what was accepted so far is refused by the reason where the test applies
unfoldable pub then_of : Answer → Bool → Refusal → Answer
then_of (Ok _) bad why = pick_answer bad (Err why) (Ok tt)
then_of (Err old) bad why = Err old

-- an answer with the tests of a list more, one after another
abbrev pub folded : Answer → List Test → Answer
folded a [] = a
folded a (t ∷ ts) = folded (then_of a t.0 t.1) ts
