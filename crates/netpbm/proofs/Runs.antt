-- Laws of the entries at the front that pass a test: one more, none, and how many there can be.
-- They are proved once for every test that 0 doesn't pass, since `get_or` gives 0 past the end: so what passes stands inside, and a run
-- ends inside too. Whitespace, digits and the magic are their uses. Whitespace with its comments has the same laws by a state more.
use Rattle.std.proofs.Common.{◌≡◌, refl, sym, ap, ◌∙◌, Bool, true, false, ◌&&◌, cond, List, [], ◌∷◌, ℕ, suc, ◌+◌, ◌-◌, max, ◌≤◌, ◌<◌, add-one, arith, leb, ltb, eqb, length, get_or, take, drop, length-drop, drop_of_length-le, drop-cons, ltb-true, ltb-false, leb-true, lt-ltb, le-ltb}
use lib.ListN.{get_or-eq_default}
use lib.Pointwise.{pointwise}
use lib.Seq.{take-length}
use Rattle.std.proofs.lemmas.Bool.Decides.{nat_tests}
use Rattle.std.proofs.lemmas.List.{get_or-drop}
use Rattle.netpbm.specs.Ascii.{is_blank, is_digit}
use Rattle.netpbm.specs.Bytes.{leading, in_comment, is_space, spaces, has_blank, has_space, has_digit, digits_at, past_spaces, past_digits}
use Rattle.netpbm.specs.Images.{has_magic}
use Rattle.netpbm.specs.Inner.Held.{space_held}

pub leading_most : (p : ℕ → Bool) (xs : List ℕ) → leading p xs ≤ length xs
unfolding leading
leading_most p [] = omega arith
leading_most p (x ∷ xs) = go (p x) (leading_most p xs)
  where
    go : (t : Bool) → leading p xs ≤ length xs → cond t (suc (leading p xs)) 0 ≤ suc (length xs)
    go true h = omega arith
    go false h = omega arith

-- a place lies inside the list or past its end
cases : {P : Type 0} (s : List ℕ) (at : ℕ) → (at < length s → P) → (length s ≤ at → P) → P
cases {P} s at f g = go (ltb at (length s)) (ltb-true at (length s)) (ltb-false at (length s))
  where
    go : (t : Bool) → (t ≡ true → at < length s) → (t ≡ false → length s ≤ at) → P
    go true y n = f (y refl)
    go false y n = g (n refl)

-- true is not false
pub differ : {A : Type 0} (b : Bool) → b ≡ true → b ≡ false → A
differ b t f = let z : ◌≡◌ {A = ℕ} 0 1 = cc in absurd (omega arith)

-- a test that 0 doesn't pass, at a place of a list
module _ (p : ℕ → Bool) (none : p 0 ≡ false) (s : List ℕ) (at : ℕ) where
  -- what passes stands inside
  inside : p (get_or s at 0) ≡ true → at < length s
  inside e = cases s at (λ l. l) (λ g. differ (p (get_or s at 0)) e (ap p (get_or-eq_default s 0 g) ∙ none))

  more : p (get_or s at 0) ≡ true → leading p (drop at s) ≡ suc (leading p (drop (at + 1) s))
  unfolding leading
  more e = rw (add-one, drop-cons s at 0 (inside e), e) refl

  ends : p (get_or s at 0) ≡ false → leading p (drop at s) ≡ 0
  unfolding leading
  ends e = cases s at (λ l. rw (drop-cons s at 0 l, e) refl) (λ g. rw (drop_of_length-le s g) refl)

  -- the run ends inside, or where it began
  most : at + leading p (drop at s) ≤ max at (length s)
  most = omega (arith, leading_most p (drop at s), length-drop at s)

-- ---- whitespace

-- no whitespace stands past the end
pub blank_outside : (s : List ℕ) (at : ℕ) → length s ≤ at → false ≡ has_blank s at
unfolding has_blank
blank_outside s at g = rw (get_or-eq_default s 0 g) refl

module _ (s : List ℕ) (at : ℕ) where
  pub blank_inside : has_blank s at ≡ true → at < length s
  unfolding has_blank
  blank_inside e = inside is_blank refl s at e

-- ---- whitespace, comments counted

pub spaces_count : (c : Bool) (xs : List ℕ) → spaces c xs ≤ length xs
unfolding spaces
spaces_count c [] = omega arith
spaces_count c (x ∷ xs) = go (is_space c x) (spaces_count (in_comment c x) xs)
  where
    go : (t : Bool) → spaces (in_comment c x) xs ≤ length xs → cond t (suc (spaces (in_comment c x) xs)) 0 ≤ suc (length xs)
    go true h = omega arith
    go false h = omega arith

module _ (s : List ℕ) (c : Bool) (at : ℕ) where
  pub space_here : at < length s → is_space c (get_or s at 0) ≡ space_held s c at
  unfolding space_held
  space_here l = rw (lt-ltb at (length s) l) refl

  pub space_outside : length s ≤ at → false ≡ space_held s c at
  unfolding space_held
  space_outside g = rw (le-ltb at (length s) g) refl

  pub space_inside : space_held s c at ≡ true → at < length s
  space_inside e = cases s at (λ l. l) (λ g. differ (space_held s c at) e (sym (space_outside g)))

  pub spaces_more : space_held s c at ≡ true → spaces c (drop at s) ≡ suc (spaces (in_comment c (get_or s at 0)) (drop (at + 1) s))
  unfolding spaces
  spaces_more e = let l = space_inside e in rw (add-one, drop-cons s at 0 l, space_here l ∙ e) refl

  pub spaces_end : space_held s c at ≡ false → spaces c (drop at s) ≡ 0
  unfolding spaces
  spaces_end e = cases s at (λ l. rw (drop-cons s at 0 l, space_here l ∙ e) refl) (λ g. rw (drop_of_length-le s g) refl)

module _ (s : List ℕ) (at : ℕ) where
  -- outside a comment none begins past the end
  pub space_is : space_held s false at ≡ has_space s at
  unfolding has_space
  space_is = cases s at (λ l. sym (space_here s false at l)) (λ g. sym (space_outside s false at g) ∙ rw (get_or-eq_default s 0 g) refl)

  pub spaces_most : past_spaces s at ≤ max at (length s)
  unfolding past_spaces
  spaces_most = omega (arith, spaces_count false (drop at s), length-drop at s)

-- ---- digits

-- no digit stands past the end
pub digit_outside : (s : List ℕ) (at : ℕ) → length s ≤ at → false ≡ has_digit s at
unfolding has_digit
digit_outside s at g = rw (get_or-eq_default s 0 g) refl

-- a digit is one of 48 to 57
pub digit_range : (s : List ℕ) (at : ℕ) → has_digit s at ≡ true → (48 ≤ get_or s at 0) × (get_or s at 0 ≤ 57)
unfolding has_digit
digit_range s at e = go (leb 48 (get_or s at 0)) (leb (get_or s at 0) 57) (leb-true 48 (get_or s at 0)) (leb-true (get_or s at 0) 57) e
  where
    go : (a b : Bool) → (a ≡ true → 48 ≤ get_or s at 0) → (b ≡ true → get_or s at 0 ≤ 57) → (a && b) ≡ true → (48 ≤ get_or s at 0) × (get_or s at 0 ≤ 57)
    go true b f g e = (f refl, g e)
    go false b f g e = differ false e refl

-- ---- the magic

-- the first two bytes of what is left are the magic's, or no magic stands
swapped : (a b : ℕ) → eqb a b ≡ eqb b a
swapped a b = grind (arith, nat_tests)

begins : (xs : List ℕ) → pointwise eqb (80 ∷ 53 ∷ []) (take 2 xs) ≡ (eqb (get_or xs 0 0) 80 && eqb (get_or xs 1 0) 53)
begins [] = refl
begins (x ∷ []) = go (eqb 80 x) (eqb x 80) (swapped 80 x)
  where
    go : (a b : Bool) → a ≡ b → (a && false) ≡ (b && false)
    go a b e = ap (λ (z : Bool). z && false) e
begins (x ∷ y ∷ xs) = rw (swapped 80 x, swapped 53 y) (go (eqb x 80) (eqb y 53))
  where
    go : (a b : Bool) → (a && (b && true)) ≡ (a && b)
    go true true = refl
    go true false = refl
    go false b = refl

pub magic_here : (s : List ℕ) (at : ℕ) → pointwise eqb (80 ∷ 53 ∷ []) (take 2 (take (length s - at) (drop at s))) ≡ has_magic s at
unfolding has_magic
magic_here s at =
    let z : at + 0 ≡ at = omega arith in
    let e : take (length s - at) (drop at s) ≡ drop at s = rw (← (length-drop at s)) (take-length (drop at s)) in
    ap (λ (xs : List ℕ). pointwise eqb (80 ∷ 53 ∷ []) (take 2 xs)) e ∙ begins (drop at s) ∙ rw (get_or-drop at s 0 0, get_or-drop at s 1 0, z) refl

-- where fewer than two bytes are left no magic stands
pub magic_outside : (s : List ℕ) (at : ℕ) → length s ≤ at + 1 → false ≡ has_magic s at
unfolding has_magic
magic_outside s at g = rw (get_or-eq_default s 0 g) (go (eqb (get_or s at 0) 80))
  where
    go : (a : Bool) → false ≡ (a && false)
    go true = refl
    go false = refl

module _ (s : List ℕ) (at : ℕ) where
  pub digit_inside : has_digit s at ≡ true → at < length s
  unfolding has_digit
  digit_inside e = inside is_digit refl s at e

  pub digits_more : has_digit s at ≡ true → digits_at s at ≡ suc (digits_at s (at + 1))
  unfolding has_digit digits_at
  digits_more e = more is_digit refl s at e

  pub digits_end : has_digit s at ≡ false → digits_at s at ≡ 0
  unfolding has_digit digits_at
  digits_end e = ends is_digit refl s at e

  pub past_more : has_digit s at ≡ true → past_digits s at ≡ past_digits s (at + 1)
  unfolding past_digits
  past_more e = let m = digits_more e in omega arith

  pub past_end : has_digit s at ≡ false → past_digits s at ≡ at
  unfolding past_digits
  past_end e = let m = digits_end e in omega arith

  pub digits_most : past_digits s at ≤ max at (length s)
  unfolding past_digits digits_at
  digits_most = most is_digit refl s at
