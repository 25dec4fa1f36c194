-- Laws of refusal lists: what acceptance and a number say of the tests.
-- Each is an induction along the list that splits on the first test, by a local `go` over its outcome, at which `first` computes.
-- Only `refused_lowest` needs more: that the places rise along the list (`above`).
use Rattle.std.proofs.Common.{◌≡◌, refl, sym, ap, subst, ◌∙◌, ◌⊎◌, inl, inr, Bool, true, false, ◌||◌, cond, List, [], ◌∷◌, ◌++◌, ℕ, ◌≤◌, arith, T, Ok, Err}
use Rattle.laws.specs.declared.refusal.Refusal.{Refusal}
use Rattle.laws.specs.Refusals.{Answer, Test, first, number_of, pick_answer, accepted, place_of, Ascending, Applies, Lowest}
use Rattle.laws.specs.Inner.Refusals.{further}

-- every test of the list failed
abbrev pub Failed : List Test → Type 0
Failed [] = Unit {0}
Failed (t ∷ ts) = (t.0 ≡ false) × Failed ts

differ : (why : Refusal) → ◌≡◌ {A = Answer} (Err why) (Ok tt) → ⊥
differ why e = let z : ◌≡◌ {A = ℕ} 0 1 = cc in omega arith

-- the answer that is accepted
pub accepted_is : (a : Answer) → accepted a ≡ true → a ≡ Ok tt
accepted_is (Ok tt) e = refl
accepted_is (Err why) e = let z : ◌≡◌ {A = ℕ} 0 1 = cc in absurd (omega arith)

-- acceptance means that every test failed
pub accepted_failed : (ts : List Test) → first ts ≡ Ok tt → Failed ts
unfolding first
accepted_failed [] e = tt
accepted_failed (t ∷ ts) e = go t.0 (accepted_failed ts) e
  where
    go : (b : Bool) → (first ts ≡ Ok tt → Failed ts) → pick_answer b (Err t.1) (first ts) ≡ Ok tt → (b ≡ false) × Failed ts
    go true k e = absurd (differ t.1 e)
    go false k e = (refl, k e)

-- an accepted call is not refused
pub not_refused : (ts : List Test) (a : Answer) (why : Refusal) → first ts ≡ Ok tt → a ≡ first ts → a ≡ Err why → ⊥
not_refused ts a why e f g = differ why (sym g ∙ f ∙ e)

-- and where every test failed the call is accepted
pub failed_accepted : (ts : List Test) → Failed ts → first ts ≡ Ok tt
unfolding first
failed_accepted [] h = refl
failed_accepted (t ∷ ts) h = rw h.0 (failed_accepted ts h.1)

-- a test that applies is the answer, one that doesn't is passed over: the steps of a function that tests in turn
pub refused_here : (b : Bool) (why : Refusal) (ts : List Test) → b ≡ true → first ((b, why) ∷ ts) ≡ Err why
unfolding first
refused_here b why ts e = rw e refl

pub passed_over : (b : Bool) (why : Refusal) (ts : List Test) → b ≡ false → first ((b, why) ∷ ts) ≡ first ts
unfolding first
passed_over b why ts e = rw e refl

-- "The lowest number that applies is given, and only then": a number given belongs to a test that applies,
pub refused_applies : (ts : List Test) (why : Refusal) → first ts ≡ Err why → Applies (number_of why) ts
unfolding first Applies
refused_applies [] why e = absurd (differ why (let h = e in (cc)))
refused_applies (t ∷ ts) why e = go t.0 (refused_applies ts why) e
  where
    go : (b : Bool) → (first ts ≡ Err why → Applies (number_of why) ts) → pick_answer b (Err t.1) (first ts) ≡ Err why → (T b × (number_of t.1 ≡ number_of why)) ⊎ Applies (number_of why) ts
    go true k e = let w : t.1 ≡ why = cc in inl (tt, ap number_of w)
    go false k e = inr (k e)

-- and stands no lower in the table than any number whose test applies, since the places rise along the list
above : (ts : List Test) (least m : ℕ) → Ascending least ts → Applies m ts → least ≤ place_of m
unfolding Ascending Applies
above [] least m a p = absurd p
above (t ∷ ts) least m a (inl q) = let h : place_of (number_of t.1) ≡ place_of m = ap place_of q.1 in let k = a.0 in omega arith
above (t ∷ ts) least m a (inr q) = let h : place_of (number_of t.1) ≤ place_of m = above ts (place_of (number_of t.1)) m a.1 q in let k = a.0 in omega arith

pub refused_lowest : (ts : List Test) (least : ℕ) (why : Refusal) (m : ℕ) → Ascending least ts → first ts ≡ Err why → Applies m ts → place_of (number_of why) ≤ place_of m
unfolding first Ascending Applies
refused_lowest [] least why m a e p = absurd p
refused_lowest (t ∷ ts) least why m a e p = go t.0 (λ f q. refused_lowest ts (place t) why m a.1 f q) e p
  where
    place : Test → ℕ
    place u = place_of (number_of u.1)

    go : (b : Bool) → (first ts ≡ Err why → Applies m ts → place_of (number_of why) ≤ place_of m) → pick_answer b (Err t.1) (first ts) ≡ Err why → (T b × (number_of t.1 ≡ m)) ⊎ Applies m ts → place_of (number_of why) ≤ place_of m
    go true k e (inl q) = let w : t.1 ≡ why = cc in let h : place t ≡ place_of (number_of why) = ap (λ r. place_of (number_of r)) w in let i : place t ≡ place_of m = ap place_of q.1 in omega arith
    go true k e (inr q) = let w : t.1 ≡ why = cc in let h : place t ≡ place_of (number_of why) = ap (λ r. place_of (number_of r)) w in let i : place t ≤ place_of m = above ts (place t) m a.1 q in omega arith
    go false k e (inl q) = absurd q.0
    go false k e (inr q) = k e q

-- a call is accepted exactly if no test applies
failed_none : (ts : List Test) (m : ℕ) → Failed ts → Applies m ts → ⊥
unfolding Applies
failed_none [] m h p = p
failed_none (t ∷ ts) m h (inl q) = subst T h.0 q.0
failed_none (t ∷ ts) m h (inr q) = failed_none ts m h.1 q

pub accepted_none : (ts : List Test) (m : ℕ) → first ts ≡ Ok tt → Applies m ts → ⊥
accepted_none ts m e p = failed_none ts m (accepted_failed ts e) p

pub none_accepted : (ts : List Test) → ((m : ℕ) → Applies m ts → ⊥) → first ts ≡ Ok tt
none_accepted ts h = go (first ts) refl
  where
    go : (a : Answer) → first ts ≡ a → first ts ≡ Ok tt
    go (Ok tt) e = e
    go (Err why) e = absurd (h (number_of why) (refused_applies ts why e))

-- so the answer of a list in the table's order is the lowest,
pub first_lowest : (ts : List Test) → Ascending 0 ts → Lowest ts (first ts)
first_lowest ts a =
    record {
      applies = λ why e. refused_applies ts why e;
      least = λ why m e p. refused_lowest ts 0 why m a e p;
      none = λ m e p. accepted_none ts m e p;
    }

-- and so is that of a call whose contract names the list
pub given_lowest : (ts : List Test) (answer : Answer) → Ascending 0 ts → answer ≡ first ts → Lowest ts answer
given_lowest ts answer a e = subst (Lowest ts) (sym e) (first_lowest ts a)

-- ---- a list in two parts

-- a refusal by the first part stands
pub refused_early : (ts us : List Test) → accepted (first ts) ≡ false → first (ts ++ us) ≡ first ts
unfolding first
refused_early [] us e = let z : ◌≡◌ {A = ℕ} 0 1 = cc in absurd (omega arith)
refused_early (t ∷ ts) us e = go t.0 (refused_early ts us) e
  where
    go : (b : Bool) → (accepted (first ts) ≡ false → first (ts ++ us) ≡ first ts) → accepted (pick_answer b (Err t.1) (first ts)) ≡ false → pick_answer b (Err t.1) (first (ts ++ us)) ≡ pick_answer b (Err t.1) (first ts)
    go true k e = refl
    go false k e = k e

-- and past it the second part answers
pub passed_early : (ts us : List Test) → accepted (first ts) ≡ true → first (ts ++ us) ≡ first us
unfolding first
passed_early [] us e = refl
passed_early (t ∷ ts) us e = go t.0 (passed_early ts us) e
  where
    go : (b : Bool) → (accepted (first ts) ≡ true → first (ts ++ us) ≡ first us) → accepted (pick_answer b (Err t.1) (first ts)) ≡ true → pick_answer b (Err t.1) (first (ts ++ us)) ≡ first us
    go true k e = let z : ◌≡◌ {A = ℕ} 0 1 = cc in absurd (omega arith)
    go false k e = k e

-- acceptance by both parts
pub failed_both : (ts us : List Test) → Failed (ts ++ us) → Failed ts × Failed us
failed_both [] us h = (tt, h)
failed_both (t ∷ ts) us h = let w = failed_both ts us h.1 in ((h.0, w.0), w.1)

-- ---- a list asked in two steps

-- behind the answer to the first part
pub first_further : (ts us : List Test) → first (ts ++ us) ≡ further (first ts) us
unfolding first
first_further [] us = refl
first_further (t ∷ ts) us = go t.0 (first_further ts us)
  where
    go : (b : Bool) → first (ts ++ us) ≡ further (first ts) us → pick_answer b (Err t.1) (first (ts ++ us)) ≡ further (pick_answer b (Err t.1) (first ts)) us
    go true e = refl
    go false e = e

-- so a refusal by the first part is the list's,
pub stops : (ts us : List Test) (why : Refusal) → first ts ≡ Err why → Err why ≡ first (ts ++ us)
stops ts us why e = sym (first_further ts us ∙ ap (λ a. further a us) e)

-- and past the first part the second one answers
pub goes_on : (ts us : List Test) → first ts ≡ Ok tt → first us ≡ first (ts ++ us)
goes_on ts us e = sym (first_further ts us ∙ ap (λ a. further a us) e)

-- two tests with the same reason are one
pub first_either : (b c : Bool) (why : Refusal) (ts : List Test) → first ((b, why) ∷ (c, why) ∷ ts) ≡ first ((b || c, why) ∷ ts)
unfolding first
first_either true c why ts = refl
first_either false c why ts = refl

-- ---- a call that asks, refuses, works and accepts: it asks for its answer, hands a refusal back with all as it was, and works otherwise

module _ {answer : Answer} where
  -- refused, it leaves a part of what it was lent as it was;
  pub kept : {why : Refusal} → answer ≡ Err why → {A : Type 0} (new old : A) → old ≡ cond (accepted answer) new old
  kept e new old = rw e refl

  -- accepted, it leaves there what its work leaves
  pub made : answer ≡ Ok tt → {A : Type 0} {after new : A} (old : A) → after ≡ new → after ≡ cond (accepted answer) new old
  made e old h = rw e h
