-- A number of a header in two inputs that differ in a run of whitespace: the same number, and the same bytes behind it.
-- A number depends on the bytes from where it is looked for on, so three cases are enough: it ends in front of the run (`front_field`),
-- the run is in its whitespace (`here_field`), or it stands behind (`behind_field`). The hard one is the first, since digits and whitespace
-- end at the run only because both inputs have whitespace there (`spaces_front`, `leading_front` of Comments).
use Rattle.std.proofs.Common.{◌≡◌, refl, sym, ap, ◌∙◌, Bool, true, false, ◌&&◌, List, [], ◌∷◌, ◌++◌, append_assoc, ℕ, ◌+◌, ◌≤◌, ◌<◌, arith, length, get_or, take, drop, length-append, length-drop, get_or-append-add, get_or-drop, drop-drop}
use lib.ListN.{get_or-append}
use lib.Seq.{take-append-le, drop-append-le, drop-append-add}
use Rattle.netpbm.specs.Ascii.{is_digit}
use Rattle.netpbm.specs.Bytes.{leading, is_space, spaces, decimal_of, has_space, has_digit, digits_at, past_spaces, past_digits, number_at}
use Rattle.netpbm.specs.Images.{has_number, field_of, field_end}
use Rattle.netpbm.specs.Comments.{all_space}
use Rattle.netpbm.proofs.Comments.{space_no_digit, all_append, spaces_append, spaces_front, leading_front, seam}
use Rattle.netpbm.proofs.Ratios.{both_true}

-- ---- a number by the bytes from where it is looked for on

unfoldable digits_in : List ℕ → ℕ
digits_in x = leading is_digit (drop (spaces false x) x)

unfoldable value_in_text : List ℕ → ℕ
value_in_text x = decimal_of 0 (take (digits_in x) (drop (spaces false x) x))

unfoldable length_in : List ℕ → ℕ
length_in x = spaces false x + digits_in x

unfoldable number_in : List ℕ → Bool
number_in x = is_space false (get_or x 0 0) && is_digit (get_or x (spaces false x) 0)

module _ (s : List ℕ) (p : ℕ) where
  number_in_is : has_number s p ≡ number_in (drop p s)
  unfolding has_number has_space has_digit past_spaces number_in
  number_in_is =
      let a : get_or s p 0 ≡ get_or (drop p s) 0 0 = ap (λ (k : ℕ). get_or s k 0) (omega arith) ∙ sym (get_or-drop p s 0 0) in
      rw (a, get_or-drop p s (spaces false (drop p s)) 0) refl

  value_in : field_of s p ≡ value_in_text (drop p s)
  unfolding field_of number_at digits_at past_spaces value_in_text digits_in
  value_in = rw (drop-drop (spaces false (drop p s)) p s) refl

  end_in : field_end s p ≡ p + length_in (drop p s)
  unfolding field_end past_digits digits_at past_spaces length_in digits_in
  end_in = rw (drop-drop (spaces false (drop p s)) p s) (omega arith)

  pub end_least : p ≤ field_end s p
  end_least = omega (arith, end_in)

  -- what stands behind the number
  end_drop : drop (field_end s p) s ≡ drop (length_in (drop p s)) (drop p s)
  end_drop = ap (λ (k : ℕ). drop k s) end_in ∙ sym (drop-drop (length_in (drop p s)) p s)

-- the number that is looked for at p in s is the one at q in t
pub record Alike (s : List ℕ) (p : ℕ) (t : List ℕ) (q : ℕ) : Type 0 where
  pub number : has_number s p ≡ has_number t q
  pub value : field_of s p ≡ field_of t q

alike_in : (s : List ℕ) (p : ℕ) (t : List ℕ) (q : ℕ) → number_in (drop p s) ≡ number_in (drop q t) → value_in_text (drop p s) ≡ value_in_text (drop q t) → Alike s p t q
alike_in s p t q n v = record { number = number_in_is s p ∙ n ∙ sym (number_in_is t q); value = value_in s p ∙ v ∙ sym (value_in t q) }

-- ---- behind the place: the same bytes are left

pub behind_field : (s : List ℕ) (p : ℕ) (t : List ℕ) (q : ℕ) → drop p s ≡ drop q t → Alike s p t q × (drop (field_end s p) s ≡ drop (field_end t q) t)
behind_field s p t q e =
    (alike_in s p t q (ap number_in e) (ap value_in_text e), end_drop s p ∙ ap (λ (x : List ℕ). drop (length_in x) x) e ∙ sym (end_drop t q))

-- ---- in front of the place: whitespace stands there in both inputs

module _ (x : List ℕ) (y z : ℕ) (ys zs : List ℕ) (ey : is_space false y ≡ true) (ez : is_space false z ≡ true) (l : spaces false (x ++ (y ∷ ys)) ≤ length x) where
  same_spaces : spaces false (x ++ (y ∷ ys)) ≡ spaces false (x ++ (z ∷ zs))
  same_spaces = spaces_front false x y ys (z ∷ zs) ey l

  same_number : number_in (x ++ (y ∷ ys)) ≡ number_in (x ++ (z ∷ zs))
  unfolding number_in
  same_number =
      let n = spaces false (x ++ (y ∷ ys)) in
      let a : is_space false (get_or (x ++ (y ∷ ys)) 0 0) ≡ is_space false (get_or (x ++ (z ∷ zs)) 0 0) = seam (is_space false) x y z ys zs 0 (ey ∙ sym ez) (omega arith) in
      let b : is_digit (get_or (x ++ (y ∷ ys)) n 0) ≡ is_digit (get_or (x ++ (z ∷ zs)) n 0) = seam is_digit x y z ys zs n (space_no_digit y ey ∙ sym (space_no_digit z ez)) l in
      ap (λ (d : Bool). d && is_digit (get_or (x ++ (y ∷ ys)) n 0)) a
      ∙ ap (λ (d : Bool). is_space false (get_or (x ++ (z ∷ zs)) 0 0) && d) b
      ∙ ap (λ (k : ℕ). is_space false (get_or (x ++ (z ∷ zs)) 0 0) && is_digit (get_or (x ++ (z ∷ zs)) k 0)) same_spaces

  -- the bytes behind the whitespace, up to the place
  abbrev left : List ℕ
  left = drop (spaces false (x ++ (y ∷ ys))) x

  left_y : drop (spaces false (x ++ (y ∷ ys))) (x ++ (y ∷ ys)) ≡ left ++ (y ∷ ys)
  left_y = drop-append-le (spaces false (x ++ (y ∷ ys))) x (y ∷ ys) l

  left_z : drop (spaces false (x ++ (z ∷ zs))) (x ++ (z ∷ zs)) ≡ left ++ (z ∷ zs)
  left_z = ap (λ (k : ℕ). drop k (x ++ (z ∷ zs))) (sym same_spaces) ∙ drop-append-le (spaces false (x ++ (y ∷ ys))) x (z ∷ zs) l

  runs : (leading is_digit (left ++ (y ∷ ys)) ≡ leading is_digit (left ++ (z ∷ zs))) × (leading is_digit (left ++ (y ∷ ys)) ≤ length left)
  runs = leading_front is_digit left y z ys zs (space_no_digit y ey) (space_no_digit z ez)

  same_digits : digits_in (x ++ (y ∷ ys)) ≡ digits_in (x ++ (z ∷ zs))
  unfolding digits_in
  same_digits = ap (leading is_digit) left_y ∙ runs.0 ∙ sym (ap (leading is_digit) left_z)

  same_value : value_in_text (x ++ (y ∷ ys)) ≡ value_in_text (x ++ (z ∷ zs))
  unfolding value_in_text digits_in
  same_value =
      let n = leading is_digit (left ++ (y ∷ ys)) in
      let m = leading is_digit (left ++ (z ∷ zs)) in
      let r = runs in
      ap (λ (w : List ℕ). decimal_of 0 (take (leading is_digit w) w)) left_y
      ∙ ap (decimal_of 0) (take-append-le n left (y ∷ ys) r.1 ∙ ap (λ (k : ℕ). take k left) r.0 ∙ sym (take-append-le m left (z ∷ zs) (omega (arith, r.0, r.1))))
      ∙ sym (ap (λ (w : List ℕ). decimal_of 0 (take (leading is_digit w) w)) left_z)

  same_length : length_in (x ++ (y ∷ ys)) ≡ length_in (x ++ (z ∷ zs))
  unfolding length_in
  same_length = omega (arith, same_spaces, same_digits)

-- ---- at the place: whitespace, and behind it the same bytes

begins : (x c : List ℕ) → all_space false x ≡ true → 0 < length x → is_space false (get_or (x ++ c) 0 0) ≡ true
unfolding all_space
begins [] c e l = absurd (omega arith)
begins (b ∷ x) c e l = (both_true (is_space false b) _ e).0

module _ (x c : List ℕ) (e : all_space false x ≡ true) where
  here_spaces : spaces false (x ++ c) ≡ length x + spaces false c
  here_spaces = spaces_append false x c e

  here_drop : drop (spaces false (x ++ c)) (x ++ c) ≡ drop (spaces false c) c
  here_drop = ap (λ (k : ℕ). drop k (x ++ c)) here_spaces ∙ drop-append-add x c (spaces false c)

  here_value : value_in_text (x ++ c) ≡ value_in_text c
  unfolding value_in_text digits_in
  here_value = ap (λ (w : List ℕ). decimal_of 0 (take (leading is_digit w) w)) here_drop

  here_end : drop (length_in (x ++ c)) (x ++ c) ≡ drop (length_in c) c
  unfolding length_in digits_in
  here_end =
      sym (drop-drop (leading is_digit (drop (spaces false (x ++ c)) (x ++ c))) (spaces false (x ++ c)) (x ++ c))
      ∙ ap (λ (w : List ℕ). drop (leading is_digit w) w) here_drop
      ∙ drop-drop (leading is_digit (drop (spaces false c) c)) (spaces false c) c

  here_number : 0 < length x → number_in (x ++ c) ≡ is_digit (get_or c (spaces false c) 0)
  unfolding number_in
  here_number l =
      ap (λ (d : Bool). d && is_digit (get_or (x ++ c) (spaces false (x ++ c)) 0)) (begins x c e l)
      ∙ ap is_digit (ap (λ (k : ℕ). get_or (x ++ c) k 0) here_spaces ∙ get_or-append-add x c (spaces false c) 0)

-- ---- two inputs that differ in a run of whitespace behind a front

-- what is needed of them further on
pub record Replaced (s t front : List ℕ) : Type 0 where
  pub same : (i : ℕ) → i < length front → get_or s i 0 ≡ get_or t i 0
  pub s_least : length front ≤ length s
  pub t_least : length front ≤ length t
  -- a number that ends in the front
  pub front_field : (p : ℕ) → p ≤ length front → field_end s p ≤ length front → Alike s p t p × (field_end s p ≡ field_end t p)
  -- a number whose whitespace reaches to the run
  pub here_field : (p : ℕ) → p ≤ length front → all_space false (drop p front) ≡ true → Alike s p t p × (drop (field_end s p) s ≡ drop (field_end t p) t)

module _ (a rest : List ℕ) (y z : ℕ) (ys zs : List ℕ) (ey : all_space false (y ∷ ys) ≡ true) (ez : all_space false (z ∷ zs) ≡ true) where
  abbrev input : (b : ℕ) (bs : List ℕ) → List ℕ
  input b bs = a ++ (b ∷ (bs ++ rest))

  first_is : (b : ℕ) (bs : List ℕ) → all_space false (b ∷ bs) ≡ true → is_space false b ≡ true
  unfolding all_space
  first_is b bs e = (both_true (is_space false b) _ e).0

  in_front : (p : ℕ) → p ≤ length a → field_end (input y ys) p ≤ length a → Alike (input y ys) p (input z zs) p × (field_end (input y ys) p ≡ field_end (input z zs) p)
  unfolding length_in
  in_front p l m =
      let s = input y ys in
      let t = input z zs in
      let ds : drop p s ≡ drop p a ++ (y ∷ (ys ++ rest)) = drop-append-le p a (y ∷ (ys ++ rest)) l in
      let dt : drop p t ≡ drop p a ++ (z ∷ (zs ++ rest)) = drop-append-le p a (z ∷ (zs ++ rest)) l in
      let fy = first_is y ys ey in
      let fz = first_is z zs ez in
      let n : field_end s p ≡ p + length_in (drop p a ++ (y ∷ (ys ++ rest))) = end_in s p ∙ ap (λ (w : List ℕ). p + length_in w) ds in
      let k : spaces false (drop p a ++ (y ∷ (ys ++ rest))) ≤ length (drop p a) = omega (arith, length-drop p a) in
      (alike_in s p t p (ap number_in ds ∙ same_number (drop p a) y z (ys ++ rest) (zs ++ rest) fy fz k ∙ sym (ap number_in dt)) (ap value_in_text ds ∙ same_value (drop p a) y z (ys ++ rest) (zs ++ rest) fy fz k ∙ sym (ap value_in_text dt)), n ∙ ap (λ (w : ℕ). p + w) (same_length (drop p a) y z (ys ++ rest) (zs ++ rest) fy fz k) ∙ sym (end_in t p ∙ ap (λ (w : List ℕ). p + length_in w) dt))

  -- one of the two inputs: its number is the one that is looked for in the rest
  at_run : (b : ℕ) (bs : List ℕ) → all_space false (b ∷ bs) ≡ true → (p : ℕ) → p ≤ length a → all_space false (drop p a) ≡ true → (has_number (input b bs) p ≡ is_digit (get_or rest (spaces false rest) 0)) × ((field_of (input b bs) p ≡ value_in_text rest) × (drop (field_end (input b bs) p) (input b bs) ≡ drop (length_in rest) rest))
  at_run b bs e p l o =
      let s = input b bs in
      let x = drop p a ++ (b ∷ bs) in
      let d : drop p s ≡ x ++ rest = drop-append-le p a (b ∷ (bs ++ rest)) l ∙ sym (append_assoc (drop p a) (b ∷ bs) rest) in
      let q : all_space false x ≡ true = all_append false (drop p a) (b ∷ bs) o e in
      let m : 0 < length x = omega (arith, length-append (drop p a) (b ∷ bs)) in
      (number_in_is s p ∙ ap number_in d ∙ here_number x rest q m, (value_in s p ∙ ap value_in_text d ∙ here_value x rest q, end_drop s p ∙ ap (λ (w : List ℕ). drop (length_in w) w) d ∙ here_end x rest q))

  at_place : (p : ℕ) → p ≤ length a → all_space false (drop p a) ≡ true → Alike (input y ys) p (input z zs) p × (drop (field_end (input y ys) p) (input y ys) ≡ drop (field_end (input z zs) p) (input z zs))
  at_place p l o =
      let u = at_run y ys ey p l o in
      let v = at_run z zs ez p l o in
      (record { number = u.0 ∙ sym v.0; value = u.1.0 ∙ sym v.1.0 }, u.1.1 ∙ sym v.1.1)

  pub replaced_in : Replaced (a ++ (y ∷ (ys ++ rest))) (a ++ (z ∷ (zs ++ rest))) a
  replaced_in = record {
    same = λ i l. get_or-append a (y ∷ (ys ++ rest)) 0 i l ∙ sym (get_or-append a (z ∷ (zs ++ rest)) 0 i l);
    s_least = omega (arith, length-append a (y ∷ (ys ++ rest)));
    t_least = omega (arith, length-append a (z ∷ (zs ++ rest)));
    front_field = in_front;
    here_field = at_place;
  }
