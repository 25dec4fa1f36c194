-- An array that `from_fn` makes: what a call gives at each place, the array holds there; and where it may be called at each place, `from_fn`
-- may be called.
use Rattle.std.proofs.Common.{◌≡◌, refl, sym, subst, inl, inr, List, ℕ, zero, suc, ◌+◌, ◌≤◌, ◌<◌, eq-or-lt_of_le, arith, get_or}
use denote.Param.Members.{Mut, Called}
use Rattle.std.specs.Array.{index_steps, IsFromFnResult, IsFromFnResultFrom}
use Rattle.std.specs.Iterator.{CallableAtEachTurn}
use Rattle.std.proofs.lemmas.Fn.{serves_by}

-- A closure that changes nothing that it captured is f at each call, so that one fact on its calls holds at each place.
module _ {F B : Type 0} (g : Mut F (ℕ × Unit {0}) B) (f : F) (ys : List B) (n : ℕ) (P : ℕ → B → Type 0) (turn : (i : ℕ) (y : B) (q : F) → i < n → Called g f (i, tt) y q → (q ≡ f) × P i y) where
  from_place : (p : F) (i m : ℕ) → p ≡ f → i + m ≤ n → IsFromFnResultFrom g p ys i m → (k : ℕ) (e : B) → i ≤ k → k < i + m → P k (get_or ys k e)
  from_place p i zero s l r k e a b = absurd (omega arith)
  from_place p i (suc m) s l r k e a b =
      let t = turn i r.1 r.0 (omega arith) (subst (λ (x : F). Called g x (i, tt) r.1 r.0) s r.3) in
      elim (eq-or-lt_of_le a) [
        | inl h ↦ subst (λ (j : ℕ). P j (get_or ys j e)) h (subst (P i) (sym (r.2.1 e)) t.1)
        | inr h ↦ from_place r.0 (i + 1) m t.0 (omega arith) r.4 k e (omega arith) (omega arith)
      ]

  all_places : IsFromFnResult g f ys n → (k : ℕ) (e : B) → k < n → P k (get_or ys k e)
  all_places r k e h = from_place f 0 n refl (omega arith) r.each k e (omega arith) (omega arith)

pub made : {F B : Type 0} {g : Mut F (ℕ × Unit {0}) B} {f : F} {ys : List B} {n : ℕ} → IsFromFnResult g f ys n → (P : ℕ → B → Type 0) → ((i : ℕ) (y : B) (q : F) → i < n → Called g f (i, tt) y q → (q ≡ f) × P i y) → (k : ℕ) (e : B) → k < n → P k (get_or ys k e)
made {F} {B} {g} {f} {ys} {n} r P turn = all_places g f ys n P turn r

-- what `from_fn` requires, at a closure whose calls leave what it captured
pub at_places : {P : Type 0} {R : P → ℕ → P → Type 0} {Q : P → ℕ → Type 0} {n : ℕ} {p : P} → ((x : ℕ) (q : P) → R p x q → q ≡ p) → ((x : ℕ) → x < n → Q p x) → CallableAtEachTurn (index_steps n) R Q 0 p
at_places {P} {R} {Q} {n} {p} still each =
    serves_by R (λ xs q. q ≡ p) (λ xs q x v j r. still x v (subst (λ (z : P). R z x v) j r)) (index_steps n) Q 0 p refl
    (λ xs t q x u y s j. subst (λ (z : P). Q z x) (sym j) (each x (omega arith)))
