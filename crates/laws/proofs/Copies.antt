-- A run that is copied to the front of a list, as `copy_from_slice` copies it, is its values put there.
use Rattle.std.proofs.Common.{◌≡◌, refl, sym, ◌∙◌, inl, inr, List, ◌++◌, ℕ, ◌+◌, ◌-◌, ◌≤◌, arith, length, get_or, take, drop, length-append}
use Rattle.std.proofs.lemmas.List.{ext_get_or, get_or_append_left, get_or-append_right, get_or-take, get_or-drop, length-take-le, length-drop}
use Rattle.std.proofs.lemmas.Bool.{cases_lt}
use Rattle.laws.specs.Lists.{put}
use Rattle.laws.proofs.Lists.{length_put, put_inside, put_after, put_same}

module _ {A : Type 0} (d : A) (s out : List A) (at n : ℕ) (h : at + n ≤ length s) (l : n ≤ length out) where
  taken : length (take n (drop at s)) ≡ n
  taken = length-take-le n (drop at s) (rw length-drop (omega arith))

  pub copied : take n (drop at s) ++ drop n out ≡ put out 0 n (λ i. get_or s (at + i) d)
  copied =
      ext_get_or d (take n (drop at s) ++ drop n out) (put out 0 n (λ i. get_or s (at + i) d))
      (rw (length-append, taken, length-drop, length_put) (omega arith))
      (λ i w. elim (cases_lt i n) [
        | inl q ↦
            let z : 0 + i ≡ i = omega arith in
            get_or_append_left (take n (drop at s)) (drop n out) d i (rw taken q) ∙ get_or-take n (drop at s) i d q ∙ get_or-drop at s i d ∙ sym (rw z at (put_inside out 0 n (λ j. get_or s (at + j) d) i d q (omega arith)))
        | inr q ↦
            let e : n + (i - n) ≡ i = omega arith in
            get_or-append_right (take n (drop at s)) (drop n out) n i d taken q ∙ get_or-drop n out (i - n) d ∙ rw e (sym (put_after out 0 n (λ j. get_or s (at + j) d) i d (omega arith)))
      ])

-- the front of a list, copied to the front of another
pub copied_front : {A : Type 0} (d : A) (s out : List A) (n : ℕ) → n ≤ length s → n ≤ length out → take n s ++ drop n out ≡ put out 0 n (λ i. get_or s i d)
copied_front d s out n h l = copied d s out 0 n (omega arith) l ∙ put_same out 0 n _ _ (λ i w. let z : 0 + i ≡ i = omega arith in rw z refl)
