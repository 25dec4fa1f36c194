-- The order of floats: `lt` and `le` hold of numbers alone, so that a not-a-number is on neither side of them.
-- By the cases not-a-number, infinity and sign the comparisons compute. Of two finite floats a comparison of cross products is left,
-- which the library's tests turn into an order of whole numbers (`le_cross`).
use Rattle.std.proofs.Common.{◌≡◌, refl, sym, ◌∙◌, subst, Bool, true, false, not, ◌&&◌, ◌||◌, ◌⊎◌, inl, inr, ℕ, ◌*◌, ◌≤◌, le_of_eq, le_of_lt, T, ltb, eqb, ltb→lt, eqb→eq, Float, eq-eqb, le-ltb}
use lib.IntN.{ℤ}
use lib.Ieee.{nan, inf, fin, up, down, below, lt, eq, ne, le, is_nan}
use borrow.Author.Tests.{not-true, not-false}
use lib.Ieee.Fits.{and_l, and_r}

or_l : (a b : Bool) → T a → T (a || b)
or_l true b t = tt
or_l false b t = absurd t

or_r : (a b : Bool) → T b → T (a || b)
or_r true b t = tt
or_r false b t = t

or_split : (a b : Bool) → T (a || b) → T a ⊎ T b
or_split true b t = inl tt
or_split false b t = inr t

pub lt_le : (x y : Float) → T (lt x y) → T (le x y)
unfolding le
lt_le x y t = or_l (lt x y) (eq x y) t

-- a float equals itself where it is no not-a-number
pub eq_self : (x : Float) → eq x x ≡ not (is_nan x)
unfolding eq is_nan
eq_self nan = refl
eq_self (inf true) = refl
eq_self (inf false) = refl
eq_self (fin true m e) = rw (eq-eqb _ _ refl)
eq_self (fin false m e) = rw (eq-eqb _ _ refl)

-- so that the test x == x tells the two apart
pub self_equal : (x : Float) → eq x x ≡ true → is_nan x ≡ false
self_equal x e = not-true (is_nan x) (sym (eq_self x) ∙ e)

pub self_unequal : (x : Float) → eq x x ≡ false → is_nan x ≡ true
self_unequal x e = not-false (is_nan x) (sym (eq_self x) ∙ e)

pub differs_self : (x : Float) → ne x x ≡ is_nan x
unfolding ne
differs_self x = go (is_nan x) (eq_self x)
  where
    go : (b : Bool) → eq x x ≡ not b → not (eq x x) ≡ b
    go true e = rw e refl
    go false e = rw e refl

is_number : (x : Float) → (x ≡ nan → ⊥) → T (not (is_nan x))
unfolding is_nan
is_number nan h = absurd (h refl)
is_number (inf s) h = tt
is_number (fin s m e) h = tt

-- what is no not-a-number is at most itself
pub le_self : (x : Float) → (x ≡ nan → ⊥) → T (le x x)
unfolding le
le_self x h = or_r (lt x x) (eq x x) (subst T (sym (eq_self x)) (is_number x h))

nan_left : (y : Float) → T (le nan y) → ⊥
unfolding le
nan_left y t = t

nan_right : (x : Float) → T (le x nan) → ⊥
unfolding le
nan_right nan t = t
nan_right (inf s) t = t
nan_right (fin s m e) t = t

-- neither side of an order is a not-a-number
pub not_nan_left : (x y : Float) → T (le x y) → x ≡ nan → ⊥
not_nan_left x y t e = nan_left y (subst (λ (z : Float). T (le z y)) e t)

pub not_nan_right : (x y : Float) → T (le x y) → y ≡ nan → ⊥
not_nan_right x y t e = nan_right x (subst (λ (z : Float). T (le x z)) e t)

-- the order of two finite floats that are not negative, by their fractions
pub le_cross : (m : ℕ) (e : ℤ) (n : ℕ) (d : ℤ) → T (le (fin false m e) (fin false n d)) → m * up e * down d ≤ n * up d * down e
unfolding le
le_cross m e n d t = go (m * up e * down d) (n * up d * down e) t
  where
    go : (a b : ℕ) → T (ltb a b || (eqb a b && true)) → a ≤ b
    go a b t = elim (or_split (ltb a b) (eqb a b && true) t) [ inl u ↦ le_of_lt (ltb→lt a b u) | inr u ↦ le_of_eq (eqb→eq a b (and_l (eqb a b) true u)) ]

-- a float that is not negative and at most a negative one is a zero
pub le_negative : (m : ℕ) (e : ℤ) (n : ℕ) (d : ℤ) → T (le (fin false m e) (fin true n d)) → m * up e * down d ≡ 0
unfolding le
le_negative m e n d t = go (m * up e * down d) (n * up d * down e) t
  where
    go : (a b : ℕ) → T (false || (eqb a b && (false || eqb a 0))) → a ≡ 0
    go a b t = eqb→eq a 0 (and_r (eqb a b) (eqb a 0) t)

-- what is less is not greater
pub lt_asym : (x y : Float) → T (lt x y) → lt y x ≡ false
unfolding lt
lt_asym nan y t = absurd t
lt_asym (inf s) nan t = absurd t
lt_asym (inf true) (inf true) t = absurd t
lt_asym (inf true) (inf false) t = refl
lt_asym (inf false) (inf s) t = absurd t
lt_asym (inf true) (fin s m e) t = refl
lt_asym (inf false) (fin s m e) t = absurd t
lt_asym (fin s m e) nan t = absurd t
lt_asym (fin s m e) (inf true) t = absurd t
lt_asym (fin s m e) (inf false) t = refl
lt_asym (fin s m e) (fin u n d) t = go s u (m * up e * down d) (n * up d * down e) t
  where
    go : (s u : Bool) (a b : ℕ) → T (below s a u b) → below u b s a ≡ false
    go true true a b t = le-ltb a b (le_of_lt (ltb→lt b a t))
    go true false a b t = refl
    go false true a b t = absurd t
    go false false a b t = le-ltb b a (le_of_lt (ltb→lt a b t))
