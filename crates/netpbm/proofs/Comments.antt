-- Laws of whitespace with comments. A run is whitespace to its end and leaves no comment open (`all_space`): then what stands behind it is
-- counted on as if it stood alone (`spaces_append`). That a comment is such a run goes by induction on its text (`text_all`).
use Rattle.std.proofs.Common.{◌≡◌, refl, ap, Bool, true, false, ◌||◌, not, cond, List, [], ◌∷◌, ◌++◌, ℕ, zero, suc, ◌+◌, ◌≤◌, arith, eqb, length, get_or, length-append, eqb-true, ne_eqb}
use borrow.Author.Tests.{not-true, lt-leb}
use Rattle.netpbm.specs.Ascii.{is_blank, is_mark, ends_comment, is_digit}
use Rattle.netpbm.specs.Bytes.{leading, in_comment, is_space, spaces}
use Rattle.netpbm.specs.Comments.{all_space}
use Rattle.netpbm.proofs.Runs.{differ}
use Rattle.netpbm.proofs.Ratios.{both_true}

-- ---- bytes

one_of : {P : Type 0} (a b : Bool) → (a || b) ≡ true → (a ≡ true → P) → (b ≡ true → P) → P
one_of true b e f g = f refl
one_of false b e f g = g e

blank_most : (b : ℕ) → is_blank b ≡ true → b ≤ 32
blank_most b e =
    one_of (eqb b 32 || eqb b 9) (eqb b 13 || eqb b 10) e (λ f. one_of (eqb b 32) (eqb b 9) f (λ g. let k = eqb-true b 32 g in omega arith) (λ g. let k = eqb-true b 9 g in omega arith)) (λ f. one_of (eqb b 13) (eqb b 10) f (λ g. let k = eqb-true b 13 g in omega arith) (λ g. let k = eqb-true b 10 g in omega arith))

blank_no_mark : (b : ℕ) → is_blank b ≡ true → is_mark b ≡ false
blank_no_mark b e = let l = blank_most b e in ne_eqb b 35 (λ h. omega arith)

-- whitespace and the mark are no digits
pub space_no_digit : (b : ℕ) → is_space false b ≡ true → is_digit b ≡ false
space_no_digit b e = rw (lt-leb 48 b (one_of (is_blank b) (is_mark b) e (λ f. let l = blank_most b f in omega arith) (λ f. let k = eqb-true b 35 f in omega arith))) refl

-- what is whitespace outside a comment is so inside one
pub space_any : (c : Bool) (b : ℕ) → is_space false b ≡ true → is_space c b ≡ true
space_any true b e = refl
space_any false b e = e

-- ---- files without a comment

-- where the first byte that isn't blank is no mark, whitespace is what it was without comments
pub spaces_plain : (x : List ℕ) → is_mark (get_or x (leading is_blank x) 0) ≡ false → spaces false x ≡ leading is_blank x
unfolding spaces leading
spaces_plain [] e = refl
spaces_plain (b ∷ bs) e = go (is_blank b) refl e (spaces_plain bs)
  where
    go : (t : Bool) → is_blank b ≡ t → is_mark (get_or (b ∷ bs) (cond t (suc (leading is_blank bs)) 0) 0) ≡ false → (is_mark (get_or bs (leading is_blank bs) 0) ≡ false → spaces false bs ≡ leading is_blank bs) → cond (is_blank b || is_mark b) (suc (spaces (is_mark b) bs)) 0 ≡ cond t (suc (leading is_blank bs)) 0
    go true k h f = rw (k, blank_no_mark b k) (ap suc (f h))
    go false k h f = rw (k, h) refl

-- ---- runs that leave no comment open

pub all_append : (c : Bool) (x y : List ℕ) → all_space c x ≡ true → all_space false y ≡ true → all_space c (x ++ y) ≡ true
unfolding all_space
all_append c [] y e f = rw (not-true c e) f
all_append c (b ∷ x) y e f = let h = both_true (is_space c b) (all_space (in_comment c b) x) e in rw h.0 (all_append (in_comment c b) x y h.1 f)

pub spaces_append : (c : Bool) (x y : List ℕ) → all_space c x ≡ true → spaces c (x ++ y) ≡ length x + spaces false y
unfolding all_space spaces
spaces_append c [] y e = rw (not-true c e) (omega arith)
spaces_append c (b ∷ x) y e =
    let h = both_true (is_space c b) (all_space (in_comment c b) x) e in
    let k = spaces_append (in_comment c b) x y h.1 in
    rw h.0 (omega arith)

-- one whitespace byte
pub blank_all : (b : ℕ) → is_blank b ≡ true → all_space false (b ∷ []) ≡ true
unfolding all_space
blank_all b e = rw (e, blank_no_mark b e) refl

-- a text that ends no comment: neither its first byte does nor those behind it
goes_on : (b : ℕ) (x : List ℕ) → leading (λ d. not (ends_comment d)) (b ∷ x) ≡ suc (length x) → (ends_comment b ≡ false) × (leading (λ d. not (ends_comment d)) x ≡ length x)
unfolding leading
goes_on b x f = go (ends_comment b) refl f
  where
    go : (t : Bool) → ends_comment b ≡ t → cond (not t) (suc (leading (λ d. not (ends_comment d)) x)) 0 ≡ suc (length x) → (ends_comment b ≡ false) × (leading (λ d. not (ends_comment d)) x ≡ length x)
    go true k h = absurd (omega arith)
    go false k h = (k, omega arith)

-- with a byte behind it that ends one
text_all : (x : List ℕ) (e : ℕ) → leading (λ b. not (ends_comment b)) x ≡ length x → ends_comment e ≡ true → all_space true (x ++ (e ∷ [])) ≡ true
unfolding all_space
text_all [] e f g = rw g refl
text_all (b ∷ x) e f g = let h = goes_on b x f in rw h.0 (text_all x e h.1 g)

-- a mark, a text, the end
pub comment_all : (x : List ℕ) (e : ℕ) → leading (λ b. not (ends_comment b)) x ≡ length x → ends_comment e ≡ true → all_space false (35 ∷ (x ++ (e ∷ []))) ≡ true
unfolding all_space
comment_all x e f g = text_all x e f g

-- a comment is as many bytes as it has, and then the rest is counted
pub comment_ends : (x : List ℕ) (e : ℕ) (rest : List ℕ) → leading (λ b. not (ends_comment b)) x ≡ length x → ends_comment e ≡ true → spaces false ((35 ∷ (x ++ (e ∷ []))) ++ rest) ≡ length x + 2 + spaces false rest
comment_ends x e rest f g =
    let k = spaces_append false (35 ∷ (x ++ (e ∷ []))) rest (comment_all x e f g) in
    let l = length-append x (e ∷ []) in
    omega arith

-- a comment that never ends is all that is left
inside_ends : (x : List ℕ) → leading (λ b. not (ends_comment b)) x ≡ length x → spaces true x ≡ length x
unfolding spaces
inside_ends [] f = refl
inside_ends (b ∷ x) f = let h = goes_on b x f in rw h.0 (ap suc (inside_ends x h.1))

pub never_ends : (x : List ℕ) → leading (λ b. not (ends_comment b)) x ≡ length x → spaces false (35 ∷ x) ≡ length (35 ∷ x)
unfolding spaces
never_ends x f = ap suc (inside_ends x f)

-- ---- a run that ends before other whitespace begins

-- whitespace that ends inside x doesn't depend on what stands behind x
pub spaces_front : (c : Bool) (x : List ℕ) (y : ℕ) (ys zs : List ℕ) → is_space false y ≡ true → spaces c (x ++ (y ∷ ys)) ≤ length x → spaces c (x ++ (y ∷ ys)) ≡ spaces c (x ++ zs)
unfolding spaces
spaces_front c [] y ys zs e l = absurd (no (is_space c y) (space_any c y e) l)
  where
    no : (t : Bool) → t ≡ true → cond t (suc (spaces (in_comment c y) ys)) 0 ≤ 0 → ⊥
    no true k m = omega arith
    no false k m = differ false k refl
spaces_front c (b ∷ x) y ys zs e l = go (is_space c b) l (spaces_front (in_comment c b) x y ys zs e)
  where
    go : (t : Bool) → cond t (suc (spaces (in_comment c b) (x ++ (y ∷ ys)))) 0 ≤ suc (length x) → (spaces (in_comment c b) (x ++ (y ∷ ys)) ≤ length x → spaces (in_comment c b) (x ++ (y ∷ ys)) ≡ spaces (in_comment c b) (x ++ zs)) → cond t (suc (spaces (in_comment c b) (x ++ (y ∷ ys)))) 0 ≡ cond t (suc (spaces (in_comment c b) (x ++ zs))) 0
    go true m f = ap suc (f (omega arith))
    go false m f = refl

-- a run of a test that neither y nor z passes ends before them
pub leading_front : (p : ℕ → Bool) (x : List ℕ) (y z : ℕ) (ys zs : List ℕ) → p y ≡ false → p z ≡ false → (leading p (x ++ (y ∷ ys)) ≡ leading p (x ++ (z ∷ zs))) × (leading p (x ++ (y ∷ ys)) ≤ length x)
unfolding leading
leading_front p [] y z ys zs e f = (rw (e, f) refl, rw e (omega arith))
leading_front p (b ∷ x) y z ys zs e f = go (p b) (leading_front p x y z ys zs e f)
  where
    go : (t : Bool) → (leading p (x ++ (y ∷ ys)) ≡ leading p (x ++ (z ∷ zs))) × (leading p (x ++ (y ∷ ys)) ≤ length x) → (cond t (suc (leading p (x ++ (y ∷ ys)))) 0 ≡ cond t (suc (leading p (x ++ (z ∷ zs)))) 0) × (cond t (suc (leading p (x ++ (y ∷ ys)))) 0 ≤ suc (length x))
    go true h = (ap suc h.0, omega (arith, h.1))
    go false h = (refl, omega arith)

-- up to a seam where y and z answer a test alike, so do both lists
pub seam : {B : Type 0} (p : ℕ → B) (x : List ℕ) (y z : ℕ) (ys zs : List ℕ) (n : ℕ) → p y ≡ p z → n ≤ length x → p (get_or (x ++ (y ∷ ys)) n 0) ≡ p (get_or (x ++ (z ∷ zs)) n 0)
seam p [] y z ys zs zero e l = e
seam p [] y z ys zs (suc n) e l = absurd (omega arith)
seam p (b ∷ x) y z ys zs zero e l = refl
seam p (b ∷ x) y z ys zs (suc n) e l = seam p x y z ys zs n e (omega arith)
