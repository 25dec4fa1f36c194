-- Two row calls' answers, settled, are the first refusal of the blend. Behind 1 a row call's numbers rise, so that the first of the tests for
-- either is the lower of the two firsts (`lower_first`); 10 and 11 are one test for both, since the sizes are equal.
use Rattle.std.proofs.Common.{◌≡◌, refl, sym, ap, ◌∙◌, Bool, true, false, ◌||◌, ◌&&◌, not, List, [], ◌∷◌, ℕ, ◌*◌, ◌≤◌, ◌<◌, arith, leb, ltb, eqb, length, eqb-true, ne_eqb, le-leb, Ok, Err}
use borrow.Author.Tests.{not-false, lt-leb}
use Rattle.laws.specs.declared.refusal.Refusal.{Refusal}
use Rattle.laws.specs.Refusals.{Answer, Test, first, number_of, pick_answer}
use Rattle.laws.proofs.Limits.{neither}
use Rattle.image.specs.Picture.{bad_planes}
use Rattle.image.specs.Scratch.{scratch_need}
use Rattle.guided.specs.declared.geometry.Geometry.{Geometry}
use Rattle.guided.specs.Calls.{reader_layout, bad_state}
use Rattle.reconstruction.proofs.Laws.{both}
use Rattle.reconstruction.specs.Reader.{RgbRowCall}
use Rattle.reconstruction.specs.Refusals.{rgb_row_tests}
use Rattle.colorimetry.specs.Inner.Settled.{is_state, lower_than, lower_of, settled}
use Rattle.colorimetry.specs.Blends.{BlendCall, same_geometry, unlike_of, blend_tests}
use Rattle.laws.specs.declared.refusal.Refusal.TheVariants.{BadState, BadPlane, ShortScratch, ShortOutput, BadRow, RowPassed, Unlike}

-- ---- the lower of two answers

-- no refusal of a number up to n
abbrev Above : ℕ → Answer → Type 0
Above n (Ok _) = Unit {0}
Above n (Err why) = n < number_of why

above_weak : (n m : ℕ) (x : Answer) → n ≤ m → Above m x → Above n x
above_weak n m (Ok _) h a = tt
above_weak n m (Err why) h a = omega arith

above_pick : (b : Bool) (why : Refusal) (x : Answer) (n : ℕ) → n < number_of why → Above (number_of why) x → Above n (pick_answer b (Err why) x)
above_pick true why x n h a = h
above_pick false why x n h a = above_weak n (number_of why) x (omega arith) a

-- the numbers rise along the list, from above n on
abbrev Rising : ℕ → List Test → Type 0
Rising n [] = Unit {0}
Rising n (t ∷ ts) = (n < number_of t.1) × Rising (number_of t.1) ts

above_first : (ts : List Test) (n : ℕ) → Rising n ts → Above n (first ts)
unfolding first
above_first [] n a = tt
above_first (t ∷ ts) n a = above_pick t.0 t.1 (first ts) n a.0 (above_first ts (number_of t.1) a.1)

lower_left : (why : Refusal) (y : Answer) → Above (number_of why) y → lower_than why y ≡ Err why
lower_left why (Ok _) a = refl
lower_left why (Err other) a = rw (le-leb (number_of why) (number_of other) (omega arith)) refl

lower_right : (why : Refusal) (x : Answer) → Above (number_of why) x → lower_of x (Err why) ≡ Err why
lower_right why (Ok _) a = refl
lower_right why (Err other) a = rw (lt-leb (number_of other) (number_of why) a) refl

same_pick : (b : Bool) (x : Answer) → pick_answer b x x ≡ x
same_pick true x = refl
same_pick false x = refl

lower_pick : (b d : Bool) (why : Refusal) (x y : Answer) → Above (number_of why) x → Above (number_of why) y → lower_of (pick_answer b (Err why) x) (pick_answer d (Err why) y) ≡ pick_answer (b || d) (Err why) (lower_of x y)
lower_pick true true why x y p q = same_pick (leb (number_of why) (number_of why)) (Err why)
lower_pick true false why x y p q = lower_left why y q
lower_pick false true why x y p q = lower_right why x p
lower_pick false false why x y p q = refl

-- lists of the same numbers, and the list of either's tests
abbrev Alike : List Test → List Test → Type 0
Alike [] [] = Unit {0}
Alike [] (u ∷ us) = ⊥
Alike (t ∷ ts) [] = ⊥
Alike (t ∷ ts) (u ∷ us) = (u.1 ≡ t.1) × Alike ts us

abbrev joined : List Test → List Test → List Test
joined [] us = []
joined (t ∷ ts) [] = []
joined (t ∷ ts) (u ∷ us) = (t.0 || u.0, t.1) ∷ joined ts us

pub lower_first : (ts us : List Test) (n m : ℕ) → Rising n ts → Rising m us → Alike ts us → lower_of (first ts) (first us) ≡ first (joined ts us)
unfolding first
lower_first [] [] n m a b h = refl
lower_first [] (u ∷ us) n m a b h = absurd h
lower_first (t ∷ ts) [] n m a b h = absurd h
lower_first (t ∷ ts) (u ∷ us) n m a b h =
    ap (λ (r : Refusal). lower_of (pick_answer t.0 (Err t.1) (first ts)) (pick_answer u.0 (Err r) (first us))) h.0
    ∙ lower_pick t.0 u.0 t.1 (first ts) (first us) (above_first ts (number_of t.1) a.1) (above_weak (number_of t.1) (number_of u.1) (first us) (let e = ap number_of h.0 in omega arith) (above_first us (number_of u.1) b.1))
    ∙ ap (pick_answer (t.0 || u.0) (Err t.1)) (lower_first ts us (number_of t.1) (number_of u.1) a.1 b.1 h.1)

-- ---- 1, 22, then the rest

later : (x : Answer) → Above 2 x → is_state x ≡ false
later (Ok _) a = refl
later (Err why) a = ne_eqb (number_of why) 1 (λ e. omega arith)

settle_cases : (e f u : Bool) (x y z : Answer) → Above 2 x → Above 2 y → (u ≡ false → lower_of x y ≡ z)
    → settled (pick_answer e (Err BadState) x) (pick_answer f (Err BadState) y) u ≡ pick_answer (e || f) (Err BadState) (pick_answer u (Err Unlike) z)
unfolding settled
settle_cases true f u x y z p q g = refl
settle_cases false true u x y z p q g = rw (later x p) refl
settle_cases false false true x y z p q g = rw (later x p, later y q) refl
settle_cases false false false x y z p q g = rw (later x p, later y q) (g refl)

-- ---- the blend's list

pub same_sizes : (g h : Geometry) → same_geometry g h ≡ true → (g.w ≡ h.w) × (g.h ≡ h.h)
unfolding same_geometry
same_sizes g h e =
    let a = both (eqb g.w h.w) (eqb g.h h.h) (both (eqb g.w h.w && eqb g.h h.h) _ e).0 in
    (eqb-true g.w h.w a.0, eqb-true g.h h.h a.1)

pub like : (g h : Geometry) (k : ℕ) → unlike_of g h k ≡ false → (same_geometry g h ≡ true) × (ltb 16 k ≡ false)
unfolding unlike_of
like g h k e = let n = neither (not (same_geometry g h)) (ltb 16 k) e in (not-false (same_geometry g h) n.0, n.1)

abbrev pub early_call : BlendCall → RgbRowCall
early_call c = record { y = c.y; side = c.early; out = c.out }

abbrev pub late_call : BlendCall → RgbRowCall
late_call c = record { y = c.y; side = c.late; out = c.out }

-- the tests behind 1
abbrev rest : RgbRowCall → List Test
rest c =
    let s = c.side in
    let l = reader_layout s.reader in
    (bad_planes l s.planes, BadPlane) ∷ (ltb (length s.scratch) (scratch_need l), ShortScratch)
    ∷ (ltb (length c.out) (l.w * 3), ShortOutput) ∷ (leb l.h c.y, BadRow) ∷ (ltb c.y s.reader.place, RowPassed) ∷ []

rises : (c : RgbRowCall) → Rising 2 (rest c)
rises c = (omega arith, (omega arith, (omega arith, (omega arith, (omega arith, tt)))))

twice : (b d : Bool) → d ≡ b → (b || d) ≡ b
twice true d e = refl
twice false d e = e

lower_rest : (c : BlendCall) → unlike_of c.early.reader.geometry c.late.reader.geometry c.weight ≡ false → lower_of (first (rest (early_call c))) (first (rest (late_call c)))
    ≡ (let l = reader_layout c.early.reader in
    let m = reader_layout c.late.reader in
    first ((bad_planes l c.early.planes || bad_planes m c.late.planes, BadPlane)
    ∷ (ltb (length c.early.scratch) (scratch_need l) || ltb (length c.late.scratch) (scratch_need m), ShortScratch)
    ∷ (ltb (length c.out) (l.w * 3), ShortOutput) ∷ (leb l.h c.y, BadRow) ∷ (ltb c.y c.early.reader.place || ltb c.y c.late.reader.place, RowPassed) ∷ []))
unfolding reader_layout
lower_rest c e =
    let g = c.early.reader.geometry in
    let h = c.late.reader.geometry in
    let s = same_sizes g h (like g h c.weight e).0 in
    let p = twice (ltb (length c.out) (g.w * 3)) (ltb (length c.out) (h.w * 3)) (ap (λ (n : ℕ). ltb (length c.out) (n * 3)) (sym s.0)) in
    let q = twice (leb g.h c.y) (leb h.h c.y) (ap (λ (n : ℕ). leb n c.y) (sym s.1)) in
    lower_first (rest (early_call c)) (rest (late_call c)) 2 2 (rises (early_call c)) (rises (late_call c)) (refl, (refl, (refl, (refl, (refl, tt))))) ∙ rw (p, q) refl

pub settled_blend : (c : BlendCall) (a b : Answer) (u : Bool) → a ≡ first (rgb_row_tests (early_call c)) → b ≡ first (rgb_row_tests (late_call c)) → u ≡ unlike_of c.early.reader.geometry c.late.reader.geometry c.weight
    → settled a b u ≡ first (blend_tests c)
unfolding first rgb_row_tests blend_tests
settled_blend c a b u p q r =
    rw (p, q, r)
    (settle_cases (bad_state c.early.reader) (bad_state c.late.reader) (unlike_of c.early.reader.geometry c.late.reader.geometry c.weight) (first (rest (early_call c))) (first (rest (late_call c))) _
    (above_first (rest (early_call c)) 2 (rises (early_call c))) (above_first (rest (late_call c)) 2 (rises (late_call c))) (lower_rest c))
