-- What a chroma row across and a chroma row down leave: their own row is held, other rows stay held.
-- Slots of other rows are apart, and so are the parts and the results of one row (`apart`), so that a put touches one buffer only. The hard
-- step is `down_is`: the slope that is put is the picture's, since the three rows of sums that it looks at are held.
use Rattle.std.proofs.Common.{◌≡◌, refl, sym, ◌∙◌, subst, ◌≢◌, inl, inr, List, [], ◌∷◌, ℕ, ◌+◌, ◌*◌, ◌%◌, ◌<◌, arith, length, Float}
use native.Mathlib.Decide.{ℕ_discrete}
use Rattle.laws.specs.Lists.{put}
use Rattle.laws.proofs.Lists.{length_put}
use Rattle.image.specs.declared.chroma.Chroma.{Chroma}
use Rattle.image.specs.Picture.{Picture}
use Rattle.image.specs.Scratch.{cell_at}
use Rattle.guided.specs.Guided.{across_val, slope}
use Rattle.guided.specs.Scratch.{buffer_at, slot_at, result_at, Stored, LumaSums, SquareSums, Cells, ProductSums, Down, Slope, Least, Greatest, num_stored, num_down, read_stored, read_across, read_down, parts, down_parts, down_of, down_over, horizontal, finish}
use Rattle.guided.proofs.Places.{Room, buffer_other, result_same, result_other, result_slot}
use Rattle.guided.proofs.Congruence.{Beside, slope_cong}
use Rattle.guided.proofs.Held.{Has, Makes, made, component_of, made_down, down_val, HoldsPart, HoldsDown, across_small, down_small, same_down, read_is, read_sums, length_across, across_other, part_made}

-- a part's buffer is no result's, in any two slots
apart : (q : Stored) (d : Down) (r j : ℕ) → r % 3 * 7 + num_stored q ≢ 21 + (j % 2 * 6 + num_down d)
apart q d r j e = absurd (omega (arith, across_small q))

module _ (p : Picture) where
  -- the result d of row j, from the sums that xs holds
  abbrev put_down : ℕ → Down → List Float → List Float
  put_down j d xs = put xs (result_at p.layout (num_down d) j) p.layout.cw (down_of p xs d j)

  length_down : (j : ℕ) (ds : List Down) (xs : List Float) → length (down_over p j ds xs) ≡ length xs
  unfolding down_over
  length_down j [] xs = refl
  length_down j (d ∷ ds) xs = length_down j ds (put_down j d xs) ∙ length_put xs (result_at p.layout (num_down d) j) p.layout.cw (down_of p xs d j)

  -- a buffer that is none of row j's results is as it was
  down_other : (j : ℕ) (ds : List Down) (xs : List Float) (n i : ℕ) → i < p.layout.cw → ((d : Down) → n ≢ 21 + (j % 2 * 6 + num_down d))
      → cell_at (down_over p j ds xs) (buffer_at p.layout n) i ≡ cell_at xs (buffer_at p.layout n) i
  unfolding down_over result_at
  down_other j [] xs n i I a = refl
  down_other j (d ∷ ds) xs n i I a = down_other j ds (put_down j d xs) n i I a ∙ buffer_other p.layout xs (21 + (j % 2 * 6 + num_down d)) n (down_of p xs d j) i I (a d)

  module _ (ks : List Chroma) where
    -- rows held, across and down
    abbrev pub HeldAcross : List Float → ℕ → Type 0
    HeldAcross xs r = (q : Stored) → Makes ks q → HoldsPart p xs q r

    abbrev pub HeldDown : List Float → ℕ → Type 0
    HeldDown xs r = (d : Down) → Has (component_of d) ks → HoldsDown p xs d r

    -- the rows round row j, which its slopes are made from
    abbrev Round : List Float → ℕ → Type 0
    Round xs j = (r : ℕ) → Beside p.layout.ch j r → HeldAcross xs r

    module _ (j : ℕ) (J : j < p.layout.ch) where
      -- what is put is the picture's: a slope since the rows round it are held, an extreme at once
      down_is : (d : Down) (xs : List Float) → Has (component_of d) ks → Round xs j → (i : ℕ) → i < p.layout.cw → down_of p xs d j i ≡ down_val p d j i
      unfolding down_of slope
      down_is (Slope k) xs h e i I =
          slope_cong p.layout (read_across p.layout xs) (across_val p) k j i J (λ r b. read_is p.layout xs LumaSums r i ∙ e r b LumaSums tt i I) (λ r b. read_is p.layout xs SquareSums r i ∙ e r b SquareSums tt i I) (λ r b. read_sums p xs k r i I (e r b (Cells k) h)) (λ r b. read_is p.layout xs (ProductSums k) r i ∙ e r b (ProductSums k) h i I)
      down_is (Least k) xs h e i I = refl
      down_is (Greatest k) xs h e i I = refl

      -- a result put is held, and leaves the sums
      down-put : (d : Down) (xs : List Float) → Room p.layout xs → Has (component_of d) ks → Round xs j → HoldsDown p (put_down j d xs) d j
      unfolding read_down
      down-put d xs L h e i I = result_same p.layout xs (num_down d) j (down_of p xs d j) i (down_small d) I L ∙ down_is d xs h e i I

      down_round : (d : Down) (xs : List Float) → Round xs j → Round (put_down j d xs) j
      unfolding read_stored
      down_round d xs e r b q m i I = result_slot p.layout xs (num_down d) j (num_stored q) r (down_of p xs d j) i (across_small q) I ∙ e r b q m i I

      -- one held stays so
      down-kept : (m : Down) (xs : List Float) (d : Down) → Room p.layout xs → Has (component_of d) ks → Round xs j → HoldsDown p xs d j → HoldsDown p (put_down j m xs) d j
      unfolding read_down
      down-kept m xs d L h e g i I =
          elim (ℕ_discrete (num_down m) (num_down d)) [
            | yes s ↦ subst (λ (n : Down). HoldsDown p (put_down j n xs) d j) (sym (same_down m d s)) (down-put d xs L h e) i I
            | no a ↦ result_other p.layout xs (num_down m) j (num_down d) j (down_of p xs m j) i I (λ s. a (omega arith)) ∙ g i I
          ]

      down-stays : (ms : List Down) (xs : List Float) (d : Down) → Room p.layout xs → Has (component_of d) ks → Round xs j → HoldsDown p xs d j → HoldsDown p (down_over p j ms xs) d j
      unfolding down_over
      down-stays [] xs d L h e g = g
      down-stays (m ∷ ms) xs d L h e g = down-stays ms (put_down j m xs) d (rw length_put L) h (down_round m xs e) (down-kept m xs d L h e g)

      -- each result of the list is held afterwards
      down-made : (ms : List Down) (xs : List Float) (d : Down) → Room p.layout xs → Has (component_of d) ks → Has d ms → Round xs j → HoldsDown p (down_over p j ms xs) d j
      unfolding down_over
      down-made [] xs d L h g e = absurd g
      down-made (m ∷ ms) xs d L h (inl s) e = down-stays ms (put_down j m xs) d (rw length_put L) h (down_round m xs e) (subst (λ (n : Down). HoldsDown p (put_down j n xs) d j) s (down-put d xs L h e))
      down-made (m ∷ ms) xs d L h (inr g) e = down-made ms (put_down j m xs) d (rw length_put L) h g (down_round m xs e)

    -- ---- a row across

    -- it keeps the length
    pub length_horizontal : (j : ℕ) (xs : List Float) → length (horizontal p ks j xs) ≡ length xs
    unfolding horizontal
    length_horizontal j xs = length_across p j (parts ks) xs

    -- its own row is held afterwards
    pub horizontal_makes : (j : ℕ) (xs : List Float) → Room p.layout xs → HeldAcross (horizontal p ks j xs) j
    unfolding horizontal
    horizontal_makes j xs L q m = part_made p j (parts ks) xs q L (made ks q m)

    -- rows in other slots stay held
    pub horizontal_keeps : (j : ℕ) (xs : List Float) (r : ℕ) → r % 3 ≢ j % 3 → HeldAcross xs r → HeldAcross (horizontal p ks j xs) r
    unfolding horizontal read_stored slot_at
    horizontal_keeps j xs r d h q m i I = across_other p j (parts ks) xs (r % 3 * 7 + num_stored q) i I (λ n e. d (omega (arith, across_small q, across_small n))) ∙ h q m i I

    -- and every result
    pub horizontal_down_parts : (j : ℕ) (xs : List Float) (r : ℕ) → HeldDown xs r → HeldDown (horizontal p ks j xs) r
    unfolding horizontal read_down result_at
    horizontal_down_parts j xs r h d m i I = across_other p j (parts ks) xs (21 + (r % 2 * 6 + num_down d)) i I (λ n e. apart n d j r (sym e)) ∙ h d m i I

    -- ---- a row down

    -- it keeps the length
    pub length_finish : (j : ℕ) (xs : List Float) → length (finish p ks j xs) ≡ length xs
    unfolding finish
    length_finish j xs = length_down j (down_parts ks) xs

    -- its own results are held afterwards, if the rows round it were
    pub finish_makes : (j : ℕ) (xs : List Float) → Room p.layout xs → j < p.layout.ch → ((r : ℕ) → Beside p.layout.ch j r → HeldAcross xs r) → HeldDown (finish p ks j xs) j
    unfolding finish
    finish_makes j xs L J e d h = down-made j J (down_parts ks) xs d L h (made_down ks d h) e

    -- results in other slots stay held
    pub finish_keeps : (j : ℕ) (xs : List Float) (r : ℕ) → r % 2 ≢ j % 2 → HeldDown xs r → HeldDown (finish p ks j xs) r
    unfolding finish read_down result_at
    finish_keeps j xs r a h d m i I = down_other j (down_parts ks) xs (21 + (r % 2 * 6 + num_down d)) i I (λ n e. a (omega (arith, down_small d, down_small n))) ∙ h d m i I

    -- and every row across
    pub finish_across : (j : ℕ) (xs : List Float) (r : ℕ) → HeldAcross xs r → HeldAcross (finish p ks j xs) r
    unfolding finish read_stored slot_at
    finish_across j xs r h q m i I = down_other j (down_parts ks) xs (r % 3 * 7 + num_stored q) i I (λ d. apart q d r j) ∙ h q m i I
