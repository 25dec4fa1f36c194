-- Refusals by folding: an answer that grows test by test, in the order of its list, is the list's first; and what a call that asks, hands a
-- refusal back and works otherwise may rely on.
use Rattle.std.proofs.Common.{◌≡◌, sym, ◌∙◌, Bool, true, false, not, cond, List, [], ◌∷◌, ◌++◌, refl, Ok, Err}
use borrow.Author.Tests.{not-true, not-false}
use Rattle.laws.specs.declared.refusal.Refusal.{Refusal}
use Rattle.laws.specs.Refusals.{Answer, Test, first, pick_answer, accepted}
use Rattle.laws.specs.Inner.Refusals.{further, then_of, folded}
use Rattle.laws.proofs.Refusals.{accepted_is, first_further as further_first}

refused_stays : (why : Refusal) (ts : List Test) → folded (Err why) ts ≡ Err why
unfolding then_of
refused_stays why [] = refl
refused_stays why (t ∷ ts) = refused_stays why ts

-- by the tests of a list acceptance becomes the first of the list,
pub first_folded : (ts : List Test) → first ts ≡ folded (Ok tt) ts
unfolding first then_of
first_folded [] = refl
first_folded (t ∷ ts) = go t.0 (first_folded ts)
  where
    go : (b : Bool) → first ts ≡ folded (Ok tt) ts → pick_answer b (Err t.1) (first ts) ≡ folded (pick_answer b (Err t.1) (Ok tt)) ts
    go true e = sym (refused_stays t.1 ts)
    go false e = e

-- so that all at once and test by test is the same,
pub further_folded : (a : Answer) (ts : List Test) → further a ts ≡ folded a ts
further_folded (Ok tt) ts = first_folded ts
further_folded (Err why) ts = sym (refused_stays why ts)

-- and so is what the answer of the list's first part becomes by the others
pub first_further : (ts us : List Test) → first (ts ++ us) ≡ folded (first ts) us
first_further ts us = further_first ts us ∙ further_folded (first ts) us

-- a call's answer, as the function that looks at its tests promises it, and whether the call was told that it is a refusal
pub record Asked (ts : List Test) (answer : Answer) (told : Bool) : Type 0 where
  pub answers : answer ≡ first ts
  pub tells : told ≡ not (accepted answer)

module _ {ts : List Test} {answer : Answer} {told : Bool} (a : Asked ts answer told) where
  turned_down : told ≡ true → accepted answer ≡ false
  turned_down e = not-true (accepted answer) (sym a.tells ∙ e)

  taken : told ≡ false → accepted answer ≡ true
  taken e = not-false (accepted answer) (sym a.tells ∙ e)

  -- refused, it leaves a part of what it was lent as it was;
  pub kept : told ≡ true → {A : Type 0} (new old : A) → old ≡ cond (accepted answer) new old
  kept e new old = rw (turned_down e) refl

  -- accepted, it leaves there what its work leaves,
  pub made : told ≡ false → {A : Type 0} {after new : A} (old : A) → after ≡ new → after ≡ cond (accepted answer) new old
  made e old h = rw (taken e) h

  -- which may rely on every test having failed
  pub passed : told ≡ false → first ts ≡ Ok tt
  passed e = sym a.answers ∙ accepted_is answer (taken e)
