-- Mixes: both products together are sixteen times a number between the two, so that the eight added decides a half and no more.
use Rattle.std.proofs.Common.{◌≡◌, sym, ap, ◌∙◌, ℕ, ◌+◌, ◌-◌, ◌*◌, ◌/◌, ◌≤◌, min, max, mul-le-mul_left, add-mul, arith}
use Rattle.colorimetry.specs.Mixes.{mix_of}

-- the weights are sixteen together
share : (k m : ℕ) → k ≤ 16 → (16 - k) * m + k * m ≡ 16 * m
share k m h = let e : 16 - k + k ≡ 16 = omega arith in sym (add-mul (16 - k) k m) ∙ ap (λ (z : ℕ). z * m) e

linear : (u v w t s : ℕ) → u ≤ v → w ≤ t → v + t ≡ s → u + w ≤ s
linear u v w t s a b c = omega arith

linear_up : (u v w t s : ℕ) → u ≤ v → w ≤ t → u + w ≡ s → s ≤ v + t
linear_up u v w t s a b c = omega arith

-- both products together are at most sixteen of the larger, and at least sixteen of the smaller
pub parts_most : (k a b m : ℕ) → k ≤ 16 → a ≤ m → b ≤ m → (16 - k) * a + k * b ≤ 16 * m
parts_most k a b m h p q = linear ((16 - k) * a) ((16 - k) * m) (k * b) (k * m) (16 * m) (mul-le-mul_left (16 - k) p) (mul-le-mul_left k q) (share k m h)

parts_least : (k a b m : ℕ) → k ≤ 16 → m ≤ a → m ≤ b → 16 * m ≤ (16 - k) * a + k * b
parts_least k a b m h p q = linear_up ((16 - k) * m) ((16 - k) * a) (k * m) (k * b) (16 * m) (mul-le-mul_left (16 - k) p) (mul-le-mul_left k q) (share k m h)

pub mix_between : (k a b : ℕ) → k ≤ 16 → (min a b ≤ mix_of k a b) × (mix_of k a b ≤ max a b)
unfolding mix_of
mix_between k a b h =
    let x = parts_least k a b (min a b) h (omega arith) (omega arith) in
    let y = parts_most k a b (max a b) h (omega arith) (omega arith) in
    cut ((16 - k) * a + k * b) (min a b) (max a b) x y
  where
    cut : (p lo hi : ℕ) → 16 * lo ≤ p → p ≤ 16 * hi → (lo ≤ (p + 8) / 16) × ((p + 8) / 16 ≤ hi)
    cut p lo hi x y = (omega arith, omega arith)

-- the first at weight 0, the second at weight 16
pub mix_first : (a b : ℕ) → mix_of 0 a b ≡ a
unfolding mix_of
mix_first a b = omega arith

pub mix_last : (a b : ℕ) → mix_of 16 a b ≡ b
unfolding mix_of
mix_last a b = omega arith
