-- Why sides may be held as 65,536 at most: no product within the input's limit changes, and none past it comes back.
-- A factor is no more than the product unless the other is 0 (`factor`), so within 49,152 both factors are held as they are (`kept`).
-- Past it, a factor that is held as 65,536, times one that is not 0, is still past it (`passes`).
use Rattle.std.proofs.Common.{◌≡◌, refl, sym, ap, ◌∙◌, inl, inr, Bool, true, false, cond, ℕ, ◌*◌, ◌≤◌, ◌<◌, eq-zero-or-pos, mul-zero, zero-mul, mul-le-mul_left, mul-le-mul_right, arith, leb, ltb, eqb, leb-true, leb-false, ltb-true, ltb-false, lt-ltb, le-ltb, eq-eqb, ne_eqb, eqb-true}
use borrow.Author.Tests.{eqb-false}
use Rattle.netpbm.specs.Images.{sample_bytes}
use Rattle.netpbm.specs.Inner.Held.{held, other_maxval}

-- a factor is no more than the product, unless the other is 0
factor : (a b : ℕ) → 0 < b → a ≤ a * b
factor a b p = omega (arith, mul-le-mul_left a p)

factor' : (a b : ℕ) → 0 < a → b ≤ a * b
factor' a b p = omega (arith, mul-le-mul_right b p)

-- a product within the limit is held as it is
kept : (a b : ℕ) → a * b ≤ 49152 → held a * held b ≡ a * b
kept a b h =
    elim (eq-zero-or-pos a) [
      | inl e ↦ rw e (zero-mul (held b) ∙ sym (zero-mul b))
      | inr p ↦ elim (eq-zero-or-pos b) [
        | inl e ↦ rw e (mul-zero (held a) ∙ sym (mul-zero a))
        | inr q ↦
            let x = factor a b q in
            let y = factor' a b p in
            let u : held a ≡ a = omega arith in
            let v : held b ≡ b = omega arith in
            rw (u, v) refl
      ]
    ]

pub rows_kept : (a b k : ℕ) → 0 < k → a * b * k ≤ 49152 → held a * held b * k ≡ a * b * k
rows_kept a b k p h = let c = factor (a * b) k p in ap (λ (m : ℕ). m * k) (kept a b (omega arith))

-- a product past the limit is held past it
passes : (a b : ℕ) → 49152 < a * b → 49152 < held a * held b
passes a b h = go (leb a 65536) (leb b 65536) (leb-true a 65536) (leb-false a 65536) (leb-true b 65536) (leb-false b 65536)
  where
    some : (a b : ℕ) → 49152 < a * b → 0 < b
    some a b h = elim (eq-zero-or-pos b) [ inl e ↦ let z : a * b ≡ a * 0 = ap (λ (x : ℕ). a * x) e in let y = mul-zero a in absurd (omega arith) | inr p ↦ p ]

    some' : (a b : ℕ) → 49152 < a * b → 0 < a
    some' a b h = elim (eq-zero-or-pos a) [ inl e ↦ let z : a * b ≡ 0 * b = ap (λ (x : ℕ). x * b) e in let y = zero-mul b in absurd (omega arith) | inr p ↦ p ]

    go : (t u : Bool) → (t ≡ true → a ≤ 65536) → (t ≡ false → 65536 < a) → (u ≡ true → b ≤ 65536) → (u ≡ false → 65536 < b) → 49152 < held a * held b
    go true true f f' g g' =
        let i = f refl in
        let j = g refl in
        let u : held a ≡ a = omega arith in
        let v : held b ≡ b = omega arith in
        rw (u, v) h
    go true false f f' g g' =
        let i = g' refl in
        let p = some' a b h in
        let v : held b ≡ 65536 = omega arith in
        let q : 0 < held a = omega arith in
        rw v (omega arith)
    go false u f f' g g' =
        let i = f' refl in
        let p = some a b h in
        let v : held a ≡ 65536 = omega arith in
        let q : 0 < held b = omega arith in
        rw v (omega arith)

-- the test for missing rows comes out the same over sides that are held, samples having k bytes each
pub held_product : (n a b k : ℕ) → n ≤ 49152 → 0 < k → ltb n (held a * held b * k) ≡ ltb n (a * b * k)
held_product n a b k l p = go (ltb 49152 (a * b)) (ltb-true 49152 (a * b)) (ltb-false 49152 (a * b))
  where
    go : (t : Bool) → (t ≡ true → 49152 < a * b) → (t ≡ false → a * b ≤ 49152) → ltb n (held a * held b * k) ≡ ltb n (a * b * k)
    go true f g =
        let h = f refl in
        let q = passes a b h in
        let c = factor (held a * held b) k p in
        let d = factor (a * b) k p in
        lt-ltb n (held a * held b * k) (omega arith) ∙ sym (lt-ltb n (a * b * k) (omega arith))
    go false f g = ap (λ (m : ℕ). ltb n (m * k)) (kept a b (g refl))

-- a test against a number below 65,536 comes out the same over a number that is held
pub held_over : (k n : ℕ) → k < 65536 → ltb k (held n) ≡ ltb k n
held_over k n l = go (ltb k n) (ltb-true k n) (ltb-false k n)
  where
    go : (t : Bool) → (t ≡ true → k < n) → (t ≡ false → n ≤ k) → ltb k (held n) ≡ t
    go true f g = let h = f refl in lt-ltb k (held n) (omega arith)
    go false f g = let h = g refl in le-ltb k (held n) (omega arith)

pub held_under : (k n : ℕ) → k ≤ 65536 → ltb (held n) k ≡ ltb n k
held_under k n l = go (ltb n k) (ltb-true n k) (ltb-false n k)
  where
    go : (t : Bool) → (t ≡ true → n < k) → (t ≡ false → k ≤ n) → ltb (held n) k ≡ t
    go true f g = let h = f refl in lt-ltb (held n) k (omega arith)
    go false f g = let h = g refl in le-ltb (held n) k (omega arith)

pub held_equal : (n k : ℕ) → k < 65536 → eqb (held n) k ≡ eqb n k
held_equal n k l = go (eqb n k) (eqb-true n k) (eqb-false n k)
  where
    go : (t : Bool) → (t ≡ true → n ≡ k) → (t ≡ false → n ≡ k → ⊥) → eqb (held n) k ≡ t
    go true f g = let h = f refl in eq-eqb (held n) k (omega arith)
    go false f g = ne_eqb (held n) k (λ e. g refl (omega arith))

-- ---- the maxval

-- so does the test of a maxval against the one that is wanted, both held
pub held_maxval : (w m : ℕ) → other_maxval (held w) (held m) ≡ other_maxval w m
held_maxval w m = go (ltb 65535 m) (ltb-true 65535 m) (ltb-false 65535 m)
  where
    go : (t : Bool) → (t ≡ true → 65535 < m) → (t ≡ false → m ≤ 65535) → other_maxval (held w) (held m) ≡ other_maxval w m
    go true f g =
        let h = f refl in
        let a : ltb (held m) 1 ≡ false = le-ltb (held m) 1 (omega arith) in
        let b : ltb 65535 (held m) ≡ true = lt-ltb 65535 (held m) (omega arith) in
        let c : ltb m 1 ≡ false = le-ltb m 1 (omega arith) in
        let d : ltb 65535 m ≡ true = lt-ltb 65535 m h in
        rw (a, b, c, d) refl
    go false f g =
        let h = g refl in
        let e : held m ≡ m = omega arith in
        rw (e, held_equal w m (omega arith)) refl

-- a sample has as many bytes at a maxval as it is held
pub held_bytes : (m : ℕ) → sample_bytes (held m) ≡ sample_bytes m
unfolding sample_bytes
held_bytes m = ap (λ (t : Bool). cond t 2 1) (held_over 255 m (omega arith))

pub bytes_some : (m : ℕ) → 0 < sample_bytes m
unfolding sample_bytes
bytes_some m = go (ltb 255 m)
  where
    go : (t : Bool) → 0 < cond t 2 1
    go true = omega arith
    go false = omega arith

pub bytes_most : (m : ℕ) → sample_bytes m ≤ 2
unfolding sample_bytes
bytes_most m = go (ltb 255 m)
  where
    go : (t : Bool) → cond t 2 1 ≤ 2
    go true = omega arith
    go false = omega arith
