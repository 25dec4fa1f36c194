-- What scratch holds of a chroma row, and what a row across and a row down make and leave of it, for any list of components.
-- A put is read back or leaves the other buffers, by Places; so the list of parts is gone through by induction. The hard step is that a buffer
-- has one use: `stored_of` and `result_of` give back what a number was given to. A component's sums are no buffer: they are the picture's
-- where its samples are held (`read_sums`).
use Rattle.std.proofs.Common.{◌≡◌, refl, sym, ap, ◌∙◌, subst, ◌≢◌, ◌⊎◌, inl, inr, List, [], ◌∷◌, ◌++◌, ℕ, ◌+◌, ◌*◌, ◌%◌, ◌<◌, arith, length, get_or, Float}
use native.Mathlib.Decide.{ℕ_discrete}
use Rattle.laws.specs.Floats.{◌⊕◌}
use Rattle.laws.specs.Lists.{put}
use Rattle.laws.proofs.Lists.{length_put}
use Rattle.image.specs.declared.layout.Layout.{Layout}
use Rattle.image.specs.declared.chroma.Chroma.{Chroma}
use Rattle.image.specs.declared.chroma.Chroma.TheVariants.{Cb, Cr}
use Rattle.image.specs.Picture.{Picture}
use Rattle.fround.specs.Rounding.{fmin, fmax}
use Rattle.image.specs.Scratch.{cell_at}
use Rattle.guided.specs.Guided.{CellSum, across_val, cell_of, extreme, slope}
use Rattle.guided.specs.Scratch.{buffer_at, slot_at, Stored, Lumas, LumaSums, SquareSums, Cells, ProductSums, part_of, Down, Slope, Least, Greatest, num_stored, num_down, read_stored, read_across, read_down, chroma_parts, parts, slope_parts, extreme_parts, down_parts, across_over}
use Rattle.guided.proofs.Congruence.{three_cong}
use Rattle.guided.proofs.Places.{Room, buffer_other, slot_same, slot_other}

-- ---- which components, and which parts

-- a is in the list
abbrev pub Has : {A : Type 0} → A → List A → Type 0
Has a [] = ⊥
Has a (b ∷ bs) = (a ≡ b) ⊎ Has a bs

-- what is stored across for the components ks
abbrev pub Makes : List Chroma → Stored → Type 0
Makes ks Lumas = Unit {0}
Makes ks LumaSums = Unit {0}
Makes ks SquareSums = Unit {0}
Makes ks (Cells k) = Has k ks
Makes ks (ProductSums k) = Has k ks

chroma_parts_is : (ks : List Chroma) (k : Chroma) → Has k ks → Has (Cells k) (chroma_parts ks) × Has (ProductSums k) (chroma_parts ks)
unfolding chroma_parts
chroma_parts_is [] k h = absurd h
chroma_parts_is (m ∷ ms) k (inl e) = (inl (ap Cells e), inr (inl (ap ProductSums e)))
chroma_parts_is (m ∷ ms) k (inr h) = let c = chroma_parts_is ms k h in (inr (inr c.0), inr (inr c.1))

-- each of them is in the list of parts
pub made : (ks : List Chroma) (q : Stored) → Makes ks q → Has q (parts ks)
unfolding parts
made ks Lumas h = inl refl
made ks LumaSums h = inr (inl refl)
made ks SquareSums h = inr (inr (inl refl))
made ks (Cells k) h = inr (inr (inr (chroma_parts_is ks k h).0))
made ks (ProductSums k) h = inr (inr (inr (chroma_parts_is ks k h).1))

-- the component that something made down is of
abbrev pub component_of : Down → Chroma
component_of (Slope k) = k
component_of (Least k) = k
component_of (Greatest k) = k

-- what is in a list is in it with another before or behind
has_front : {A : Type 0} (a : A) (xs ys : List A) → Has a xs → Has a (xs ++ ys)
has_front a [] ys h = absurd h
has_front a (x ∷ xs) ys (inl e) = inl e
has_front a (x ∷ xs) ys (inr h) = inr (has_front a xs ys h)

has_back : {A : Type 0} (a : A) (xs ys : List A) → Has a ys → Has a (xs ++ ys)
has_back a [] ys h = h
has_back a (x ∷ xs) ys h = inr (has_back a xs ys h)

slope_part : (ks : List Chroma) (k : Chroma) → Has k ks → Has (Slope k) (slope_parts ks)
unfolding slope_parts
slope_part [] k h = absurd h
slope_part (m ∷ ms) k (inl e) = inl (ap Slope e)
slope_part (m ∷ ms) k (inr h) = inr (slope_part ms k h)

extreme_part : (ks : List Chroma) (k : Chroma) → Has k ks → Has (Least k) (extreme_parts ks) × Has (Greatest k) (extreme_parts ks)
unfolding extreme_parts
extreme_part [] k h = absurd h
extreme_part (m ∷ ms) k (inl e) = (inl (ap Least e), inr (inl (ap Greatest e)))
extreme_part (m ∷ ms) k (inr h) = let c = extreme_part ms k h in (inr (inr c.0), inr (inr c.1))

-- all that is made down for a component of the list is in the list of it
pub made_down : (ks : List Chroma) (d : Down) → Has (component_of d) ks → Has d (down_parts ks)
unfolding down_parts
made_down ks (Slope k) h = has_front (Slope k) (slope_parts ks) (extreme_parts ks) (slope_part ks k h)
made_down ks (Least k) h = has_back (Least k) (slope_parts ks) (extreme_parts ks) (extreme_part ks k h).0
made_down ks (Greatest k) h = has_back (Greatest k) (slope_parts ks) (extreme_parts ks) (extreme_part ks k h).1

-- ---- the numbers of the buffers in a slot

-- each number is below seven
pub across_small : (q : Stored) → num_stored q < 7
across_small Lumas = omega arith
across_small LumaSums = omega arith
across_small SquareSums = omega arith
across_small (Cells Cb) = omega arith
across_small (Cells Cr) = omega arith
across_small (ProductSums Cb) = omega arith
across_small (ProductSums Cr) = omega arith

-- and each result's below six
pub down_small : (d : Down) → num_down d < 6
down_small (Slope Cb) = omega arith
down_small (Slope Cr) = omega arith
down_small (Least Cb) = omega arith
down_small (Least Cr) = omega arith
down_small (Greatest Cb) = omega arith
down_small (Greatest Cr) = omega arith

-- a number tells what lies there
abbrev stored_of : ℕ → Stored
stored_of n = get_or (Lumas ∷ LumaSums ∷ SquareSums ∷ Cells Cb ∷ ProductSums Cb ∷ Cells Cr ∷ ProductSums Cr ∷ []) n Lumas

stored_is : (q : Stored) → stored_of (num_stored q) ≡ q
stored_is Lumas = refl
stored_is LumaSums = refl
stored_is SquareSums = refl
stored_is (Cells Cb) = refl
stored_is (Cells Cr) = refl
stored_is (ProductSums Cb) = refl
stored_is (ProductSums Cr) = refl

abbrev result_of : ℕ → Down
result_of n = get_or (Slope Cb ∷ Least Cb ∷ Greatest Cb ∷ Slope Cr ∷ Least Cr ∷ Greatest Cr ∷ []) n (Slope Cb)

result_is : (d : Down) → result_of (num_down d) ≡ d
result_is (Slope Cb) = refl
result_is (Slope Cr) = refl
result_is (Least Cb) = refl
result_is (Least Cr) = refl
result_is (Greatest Cb) = refl
result_is (Greatest Cr) = refl

-- what has the same number is the same
pub same_part : (q m : Stored) → num_stored q ≡ num_stored m → q ≡ m
same_part q m e = sym (stored_is q) ∙ ap stored_of e ∙ stored_is m

pub same_down : (d m : Down) → num_down d ≡ num_down m → d ≡ m
same_down d m e = sym (result_is d) ∙ ap result_of e ∙ result_is m

-- ---- across

module _ (p : Picture) where
  -- what is made down, from the picture alone
  abbrev pub down_val : Down → ℕ → ℕ → Float
  down_val (Slope k) = slope p k
  down_val (Least k) = extreme p fmin k
  down_val (Greatest k) = extreme p fmax k

  -- row r of part q is held, and row r of the result d
  abbrev pub HoldsPart : List Float → Stored → ℕ → Type 0
  HoldsPart xs q r = (i : ℕ) → i < p.layout.cw → read_stored p.layout xs q r i ≡ across_val p (part_of q) r i

  abbrev pub HoldsDown : List Float → Down → ℕ → Type 0
  HoldsDown xs d r = (i : ℕ) → i < p.layout.cw → read_down p.layout xs d r i ≡ down_val d r i

  -- a row across keeps the length
  pub length_across : (j : ℕ) (qs : List Stored) (xs : List Float) → length (across_over p j qs xs) ≡ length xs
  unfolding across_over
  length_across j [] xs = refl
  length_across j (q ∷ qs) xs = length_across j qs _ ∙ length_put xs (slot_at p.layout (num_stored q) j) p.layout.cw (across_val p (part_of q) j)

  -- a buffer that is none of row j's parts is as it was
  pub across_other : (j : ℕ) (qs : List Stored) (xs : List Float) (n i : ℕ) → i < p.layout.cw → ((q : Stored) → n ≢ j % 3 * 7 + num_stored q)
      → cell_at (across_over p j qs xs) (buffer_at p.layout n) i ≡ cell_at xs (buffer_at p.layout n) i
  unfolding across_over slot_at
  across_other j [] xs n i I d = refl
  across_other j (q ∷ qs) xs n i I d = across_other j qs _ n i I d ∙ buffer_other p.layout xs (j % 3 * 7 + num_stored q) n (across_val p (part_of q) j) i I (d q)

  -- a part put is held
  part_put : (j : ℕ) (q : Stored) (xs : List Float) → Room p.layout xs → HoldsPart (put xs (slot_at p.layout (num_stored q) j) p.layout.cw (across_val p (part_of q) j)) q j
  unfolding read_stored
  part_put j q xs L i I = slot_same p.layout xs (num_stored q) j (across_val p (part_of q) j) i (across_small q) I L

  -- and stays so
  part_kept : (j : ℕ) (m : Stored) (xs : List Float) (q : Stored) → Room p.layout xs → HoldsPart xs q j
      → HoldsPart (put xs (slot_at p.layout (num_stored m) j) p.layout.cw (across_val p (part_of m) j)) q j
  unfolding read_stored
  part_kept j m xs q L h i I =
      elim (ℕ_discrete (num_stored m) (num_stored q)) [
        | yes e ↦ subst (λ (n : Stored). HoldsPart (put xs (slot_at p.layout (num_stored n) j) p.layout.cw (across_val p (part_of n) j)) q j) (sym (same_part m q e)) (part_put j q xs L) i I
        | no d ↦ slot_other p.layout xs (num_stored m) j (num_stored q) j (across_val p (part_of m) j) i I (λ e. d (omega arith)) ∙ h i I
      ]

  -- a part that is held stays so over the whole list
  pub part_stays : (j : ℕ) (qs : List Stored) (xs : List Float) (q : Stored) → Room p.layout xs → HoldsPart xs q j → HoldsPart (across_over p j qs xs) q j
  unfolding across_over
  part_stays j [] xs q L h = h
  part_stays j (m ∷ qs) xs q L h = part_stays j qs _ q (rw length_put L) (part_kept j m xs q L h)

  -- each part of the list is held afterwards
  pub part_made : (j : ℕ) (qs : List Stored) (xs : List Float) (q : Stored) → Room p.layout xs → Has q qs → HoldsPart (across_over p j qs xs) q j
  unfolding across_over
  part_made j [] xs q L h = absurd h
  part_made j (m ∷ qs) xs q L (inl e) = part_stays j qs _ q (rw length_put L) (subst (λ (n : Stored). HoldsPart (put xs (slot_at p.layout (num_stored n) j) p.layout.cw (across_val p (part_of n) j)) q j) e (part_put j q xs L))
  part_made j (m ∷ qs) xs q L (inr h) = part_made j qs _ q (rw length_put L) h

-- ---- what is read of a row across

-- what is stored is read as it stands,
pub read_is : (l : Layout) (xs : List Float) (q : Stored) (r i : ℕ) → read_across l xs (part_of q) r i ≡ read_stored l xs q r i
unfolding read_across
read_is l xs Lumas r i = refl
read_is l xs LumaSums r i = refl
read_is l xs SquareSums r i = refl
read_is l xs (Cells k) r i = refl
read_is l xs (ProductSums k) r i = refl

-- and a component's sums are the picture's where its samples are held
pub read_sums : (p : Picture) (xs : List Float) (k : Chroma) (r i : ℕ) → i < p.layout.cw → HoldsPart p xs (Cells k) r → read_across p.layout xs (CellSum k) r i ≡ across_val p (CellSum k) r i
unfolding read_across across_val
read_sums p xs k r i I h = three_cong ◌⊕◌ p.layout.cw (read_stored p.layout xs (Cells k) r) (λ i. cell_of p k r i) i I (λ q b. h q b.2)
