-- Laws of one axis of n cells c: what cell i, the one before it and the one after it give at outputs 2i and 2i + 1, edges repeated.
use Rattle.std.proofs.Common.{◌≡◌, refl, Bool, true, false, cond, ℕ, ◌+◌, ◌-◌, ◌*◌, ◌/◌, ◌%◌, min, arith, eq-eqb, ne_eqb}
use Rattle.upsample.specs.Weights.{even, far, weighed, one_axis}
use Rattle.upsample.specs.Inner.Pairs.{across_row}
use Rattle.upsample.specs.declared.axes.Bias.{Bias}

even_is : (i o : ℕ) → o ≡ 2 * i → even o ≡ true
even_is i o e = eq-eqb (o % 2) 0 (omega arith)

odd_is : (i o : ℕ) → o ≡ 2 * i + 1 → even o ≡ false
odd_is i o e = ne_eqb (o % 2) 0 (λ z. omega arith)

-- the far cell at even and at odd positions
pub far_even : (n o : ℕ) → o % 2 ≡ 0 → far n o ≡ o / 2 - 1
unfolding far
far_even n o e = rw (eq-eqb (o % 2) 0 e) refl

pub far_odd : (n o : ℕ) → (o % 2 ≡ 0 → ⊥) → far n o ≡ min (o / 2 + 1) (n - 1)
unfolding far
far_odd n o e = rw (ne_eqb (o % 2) 0 e) refl

module _ (n : ℕ) (c : ℕ → ℕ) where
  -- p is the cell before i
  weighed_even : (p i o : ℕ) → p ≡ i - 1 → o ≡ 2 * i → weighed n c o ≡ 3 * c i + c p
  unfolding weighed
  weighed_even p i o h e =
      let d : o / 2 ≡ i = omega arith in
      let f : far n o ≡ p = omega (arith, far_even n o (omega arith)) in
      rw (f, d) refl

  -- q is the cell after i
  weighed_odd : (i q o : ℕ) → q ≡ min (i + 1) (n - 1) → o ≡ 2 * i + 1 → weighed n c o ≡ 3 * c i + c q
  unfolding weighed
  weighed_odd i q o h e =
      let d : o / 2 ≡ i = omega arith in
      let f : far n o ≡ q = omega (arith, far_odd n o (λ z. omega arith)) in
      rw (f, d) refl

  pub pair_left : (b : Bias) (p i o : ℕ) → p ≡ i - 1 → o ≡ 2 * i → across_row b n c o ≡ (3 * c i + c p + b.left) / 16
  unfolding across_row
  pair_left b p i o h e = rw (weighed_even p i o h e, even_is i o e) refl

  pub pair_right : (b : Bias) (i q o : ℕ) → q ≡ min (i + 1) (n - 1) → o ≡ 2 * i + 1 → across_row b n c o ≡ (3 * c i + c q + b.right) / 16
  unfolding across_row
  pair_right b i q o h e = rw (weighed_odd i q o h e, odd_is i o e) refl

-- one axis is the row with itself as its far row: its sums are its cells four times, and so is what is added
pub one_axis_is : (n : ℕ) (c : ℕ → ℕ) (x : ℕ) → across_row (record { left = 4; right = 8 }) n (λ i. 3 * c i + c i) x ≡ one_axis n c x
unfolding across_row one_axis weighed
one_axis_is n c x = go (even x) (c (x / 2)) (c (far n x))
  where
    go : (b : Bool) (p q : ℕ) → (3 * (3 * p + p) + (3 * q + q) + cond b 4 8) / 16 ≡ (3 * p + q + cond b 1 2) / 4
    go true p q = omega arith
    go false p q = omega arith
