-- Turns of the catching-up loops: a row more across, and a row more finished.
-- The two loops are the recursions `across_rows` and `catch_up` of guided's specs/Scratch, a step at a time. The one care is subtraction: j -
-- from grows by one since the loop never stands before its start.
use Rattle.std.proofs.Common.{◌≡◌, refl, ap, ◌∙◌, List, ℕ, suc, ◌+◌, ◌-◌, ◌≤◌, min, max, arith, Float}
use Rattle.image.specs.declared.chroma.Chroma.{Chroma}
use Rattle.image.specs.Picture.{Picture}
use Rattle.guided.specs.Scratch.{horizontal, finish, across_rows, h_at, catch_up}

module _ (p : Picture) (ks : List Chroma) where
  -- no row summed across, and one more
  pub across_none : (from : ℕ) (xs : List Float) → xs ≡ across_rows p ks from (from - from) xs
  unfolding across_rows
  across_none from xs = let e : from - from ≡ 0 = omega arith in rw e refl

  pub across_more : (from j : ℕ) (xs s t : List Float) → from ≤ j → s ≡ across_rows p ks from (j - from) xs → t ≡ horizontal p ks j s → t ≡ across_rows p ks from (j + 1 - from) xs
  unfolding across_rows
  across_more from j xs s t a r m =
      let e : j + 1 - from ≡ suc (j - from) = omega arith in
      let f : from + (j - from) ≡ j = omega arith in
      rw (e, f) (m ∙ ap (horizontal p ks j) r)

  -- no row finished, and one more: what is the next to sum across, and scratch
  pub finished_none : (h f : ℕ) (xs : List Float) → (h ≡ h_at p h f (f - f)) × (xs ≡ catch_up p ks h f (f - f) xs)
  unfolding h_at catch_up
  finished_none h f xs = let e : f - f ≡ 0 = omega arith in (rw e refl, rw e refl)

  pub finished_more : (h f j g e : ℕ) (xs s t u : List Float) → f ≤ j → g ≡ h_at p h f (j - f) → s ≡ catch_up p ks h f (j - f) xs → e ≡ min (j + 2) p.layout.ch
      → t ≡ across_rows p ks g (e - g) s → u ≡ finish p ks j t → (max g e ≡ h_at p h f (j + 1 - f)) × (u ≡ catch_up p ks h f (j + 1 - f) xs)
  unfolding h_at catch_up
  finished_more h f j g e xs s t u a r q i m n =
      let b : j + 1 - f ≡ suc (j - f) = omega arith in
      let d : f + (j - f) ≡ j = omega arith in
      (rw (b, d, i, r) refl, rw (b, d) (n ∙ ap (finish p ks j) (m ∙ rw (i, r, q) refl)))
