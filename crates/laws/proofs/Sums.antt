-- Sums of the first values of a function.
use Rattle.std.proofs.Common.{◌≡◌, refl, ap, ◌∙◌, ℕ, zero, suc, ◌+◌, ◌*◌, ◌≤◌, ◌<◌, add-one, arith}
use Rattle.laws.specs.Sums.{sum_to}

-- ---- a loop that sums: its invariant is `Summed`, and its steps are `sum_none`, `sum_more` and `sum_end`

-- t is the sum of the first n values of f
pub record Summed (f : ℕ → ℕ) (n t : ℕ) : Type 0 where
  pub eq : t ≡ sum_to n f

pub sum_none : (f : ℕ → ℕ) → Summed f 0 0
unfolding sum_to
sum_none f = record { eq = refl }

pub sum_more : {f : ℕ → ℕ} {n t : ℕ} → Summed f n t → (v : ℕ) → v ≡ f n → Summed f (n + 1) (t + v)
unfolding sum_to
sum_more {f} {n} {t} w v e = record { eq = rw (add-one n) (ap (λ (k : ℕ). k + v) w.eq ∙ ap (λ (k : ℕ). sum_to n f + k) e) }

pub sum_end : {f : ℕ → ℕ} {n t : ℕ} → Summed f n t → (m : ℕ) → n ≤ m → m ≤ n → t ≡ sum_to m f
sum_end {f} {n} {t} w m h g = let q : n ≡ m = omega arith in w.eq ∙ ap (λ (k : ℕ). sum_to k f) q

-- sums of equal values are equal
pub sum_same : (n : ℕ) (f g : ℕ → ℕ) → ((i : ℕ) → i < n → f i ≡ g i) → sum_to n f ≡ sum_to n g
unfolding sum_to
sum_same zero f g e = refl
sum_same (suc n) f g e = rw (sum_same n f g (λ i l. e i (omega arith)), e n (omega arith)) refl

-- a sum of values between two bounds
pub sum_within : (n : ℕ) (f : ℕ → ℕ) (lo hi : ℕ) → ((i : ℕ) → i < n → (lo ≤ f i) × (f i ≤ hi)) → (lo * n ≤ sum_to n f) × (sum_to n f ≤ hi * n)
unfolding sum_to
sum_within zero f lo hi h = (omega arith, omega arith)
sum_within (suc n) f lo hi h = let p = sum_within n f lo hi (λ i l. h i (omega arith)) in let q = h n (omega arith) in (omega (arith, p.0, q.0), omega (arith, p.1, q.1))
