-- The first among the least: a loop that looks for it, that the definition computes it, and that there is only one.
use Rattle.std.proofs.Common.{◌≡◌, refl, sym, Bool, true, false, cond, ◌⊎◌, inl, inr, ℕ, zero, suc, ◌+◌, ◌≤◌, ◌<◌, eq-or-lt_of_le, add-one, arith, ltb, ltb-true, ltb-false}
use Rattle.colorimetry.specs.Charts.{first_least}
use Rattle.colorimetry.specs.ChartClaims.{FirstLeast}

module _ (d : ℕ → ℕ) where
  -- of the first alone
  pub least_one : FirstLeast d 1 0
  least_one = record { inside = omega arith; least = λ k K. let e : k ≡ 0 = omega arith in rw e (omega arith); first = λ k K. absurd (omega arith) }

  below : (n k : ℕ) → k < n + 1 → (k ≡ n) ⊎ (k < n)
  below n k K = eq-or-lt_of_le (omega arith)

  -- the next is less than all before it
  pub least_new : (n r : ℕ) → FirstLeast d n r → d n < d r → FirstLeast d (n + 1) n
  least_new n r h l = record {
    inside = omega arith;
    least = λ k K. elim (below n k K) [ inl e ↦ rw e (omega arith) | inr q ↦ let m = h.least k q in omega (arith, m, l) ];
    first = λ k K. let m = h.least k K in omega (arith, m, l);
  }

  -- or it isn't
  pub least_old : (n r : ℕ) → FirstLeast d n r → d r ≤ d n → FirstLeast d (n + 1) r
  least_old n r h l = record {
    inside = let i = h.inside in omega arith;
    least = λ k K. elim (below n k K) [ inl e ↦ rw e l | inr q ↦ h.least k q ];
    first = h.first;
  }

  -- the definition goes the same way
  step : (n r : ℕ) → FirstLeast d n r → FirstLeast d (n + 1) (cond (ltb (d n) (d r)) n r)
  step n r h = go (ltb (d n) (d r)) (ltb-true (d n) (d r)) (ltb-false (d n) (d r))
    where
      go : (b : Bool) → (b ≡ true → d n < d r) → (b ≡ false → d r ≤ d n) → FirstLeast d (n + 1) (cond b n r)
      go true y z = least_new n r h (y refl)
      go false y z = least_old n r h (z refl)

  alone : (b : Bool) → FirstLeast d 1 (cond b 0 0)
  alone true = least_one
  alone false = least_one

  pub least_found : (n : ℕ) → 0 < n → FirstLeast d n (first_least d n)
  unfolding first_least
  least_found zero h = absurd (omega arith)
  least_found (suc zero) h = alone (ltb (d 0) (d 0))
  least_found (suc (suc n)) h = rw (sym (add-one (suc n))) (step (suc n) (first_least d (suc n)) (least_found (suc n) (omega arith)))

  -- there is one only, so that what a loop found is the definition's
  pub least_only : (n r s : ℕ) → FirstLeast d n r → FirstLeast d n s → r ≡ s
  least_only n r s a b = go (eq-or-less r s)
    where
      eq-or-less : (r s : ℕ) → ((r < s) ⊎ (s < r)) ⊎ (r ≡ s)
      eq-or-less zero zero = inr refl
      eq-or-less zero (suc s) = inl (inl (omega arith))
      eq-or-less (suc r) zero = inl (inr (omega arith))
      eq-or-less (suc r) (suc s) = elim (eq-or-less r s) [ inl (inl h) ↦ inl (inl (omega arith)) | inl (inr h) ↦ inl (inr (omega arith)) | inr e ↦ inr (rw e refl) ]

      go : ((r < s) ⊎ (s < r)) ⊎ (r ≡ s) → r ≡ s
      go (inl (inl h)) = let x = b.first r h in let y = a.least s b.inside in absurd (omega (arith, x, y))
      go (inl (inr h)) = let x = a.first s h in let y = b.least r a.inside in absurd (omega (arith, x, y))
      go (inr e) = e

  pub least_is : (n r : ℕ) → FirstLeast d n r → r ≡ first_least d n
  least_is n r h = least_only n r (first_least d n) h (least_found n (let i = h.inside in omega arith))
