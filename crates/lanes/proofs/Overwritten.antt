-- A part of a slice that is overwritten by a list is a run of laws (`put`) of that list's values.
use Rattle.std.proofs.Common.{◌≡◌, sym, ◌∙◌, inl, inr, List, ℕ, ◌+◌, ◌-◌, ◌≤◌, ◌<◌, arith, length, get_or, rules}
use borrow.Rule.Slice.PartMut.{put_mid}
use Rattle.std.proofs.lemmas.Bool.{cases_lt}
use Rattle.std.proofs.lemmas.List.{ext_get_or, places}
use Rattle.laws.specs.Lists.{put}
use Rattle.laws.proofs.Lists.{length_put, put_before, put_inside, put_after}

module _ {A : Type 0} (xs ys : List A) (at n : ℕ) (d : A) (e : length ys ≡ n) (h : at + n ≤ length xs) where
  len : length (put_mid at n xs ys) ≡ length xs
  len = search (rules, places)

  below : (i : ℕ) → i < at → get_or (put_mid at n xs ys) i d ≡ get_or xs i d
  below i l = search (rules, places)

  within : (i : ℕ) → i < n → get_or (put_mid at n xs ys) (at + i) d ≡ get_or ys i d
  within i l = search (rules, places)

  beyond : (i : ℕ) → at + n ≤ i → i < length xs → get_or (put_mid at n xs ys) i d ≡ get_or xs i d
  beyond i l m = search (rules, places)

  reads : (i : ℕ) → i < length xs → get_or (put_mid at n xs ys) i d ≡ get_or (put xs at n (λ k. get_or ys k d)) i d
  reads i l =
      elim (cases_lt i at) [
        | inl b ↦ below i b ∙ sym (put_before xs at n (λ k. get_or ys k d) i d b)
        | inr a ↦
            elim (cases_lt i (at + n)) [
              | inl b ↦
                  let j : ℕ = i - at in
                  let e : at + j ≡ i = omega arith in
                  rw (← e) (within j (omega arith) ∙ sym (put_inside xs at n (λ k. get_or ys k d) j d (omega arith) h))
              | inr b ↦ beyond i b l ∙ sym (put_after xs at n (λ k. get_or ys k d) i d b)
            ]
      ]

  pub overwritten : put_mid at n xs ys ≡ put xs at n (λ k. get_or ys k d)
  overwritten = ext_get_or d _ _ (len ∙ sym (length_put xs at n (λ k. get_or ys k d))) (λ i l. reads i (rw len at l))
