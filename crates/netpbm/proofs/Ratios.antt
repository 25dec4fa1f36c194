-- The smallest ratio that fits: what the loop has tried, what a ratio that was found says, and why held sides find the same one.
-- The loop unfolds `smallest` once a turn (`try_one`). Sides as they are held find the same ratio because no cell count of a side of
-- 8,192 pixels comes near 65,536, where numbers stop being held as they are (`fits_held`).
use Rattle.std.proofs.Common.{◌≡◌, refl, sym, ap, ◌∙◌, Bool, true, false, ◌&&◌, cond, ℕ, zero, suc, ◌+◌, ◌-◌, ◌≤◌, ◌<◌, add-one, arith, eqb, eqb-true}
use Rattle.image.specs.Tests.{div_ceil}
use Rattle.image.proofs.Quotients.{ceil_most}
use Rattle.netpbm.specs.Reading.{fits_both, smallest, ratio_for}
use Rattle.netpbm.specs.Inner.Held.{held}
use Rattle.netpbm.proofs.Products.{held_equal}

-- `smallest`, with the first of the numbers from r to 4 tried
try_one : (p : ℕ → Bool) (r : ℕ) → r ≤ 4 → smallest p r (5 - r) ≡ cond (p r) r (smallest p (r + 1) (5 - (r + 1)))
unfolding smallest
try_one p r l =
    let e : 5 - r ≡ suc (4 - r) = omega arith in
    let f : 5 - (r + 1) ≡ 4 - r = omega arith in
    rw (e, f, add-one r) refl

-- no ratio below r fits, so that the smallest of those from r on is the smallest of all
pub record Tried (n a b r : ℕ) : Type 0 where
  pub some : 1 ≤ r
  pub most : r ≤ 5
  pub left : smallest (fits_both n a b) r (5 - r) ≡ ratio_for n a b

pub tried_none : (n a b : ℕ) → Tried n a b 1
unfolding ratio_for
tried_none n a b = record { some = omega arith; most = omega arith; left = refl }

module _ {n a b r : ℕ} (t : Tried n a b r) where
  pub tried_more : r ≤ 4 → fits_both n a b r ≡ false → Tried n a b (r + 1)
  tried_more l e = record {
    some = omega arith;
    most = omega arith;
    left = sym (try_one (fits_both n a b) r l ∙ ap (λ (x : Bool). cond x r (smallest (fits_both n a b) (r + 1) (5 - (r + 1)))) e) ∙ t.left;
  }

  pub tried_here : r ≤ 4 → fits_both n a b r ≡ true → r ≡ ratio_for n a b
  tried_here l e = sym (try_one (fits_both n a b) r l ∙ ap (λ (x : Bool). cond x r (smallest (fits_both n a b) (r + 1) (5 - (r + 1)))) e) ∙ t.left

  pub tried_all : 4 < r → 0 ≡ ratio_for n a b
  unfolding smallest
  tried_all l = let m = t.most in let e : 5 - r ≡ 0 = omega arith in sym (ap (smallest (fits_both n a b) r) e) ∙ t.left

-- ---- a ratio that was found fits

pub both_true : (a b : Bool) → (a && b) ≡ true → (a ≡ true) × (b ≡ true)
both_true true b e = (refl, e)
both_true false b e = let z : ◌≡◌ {A = ℕ} 0 1 = cc in absurd (omega arith)

-- a number that was found passes the test, and is one of those tried
module _ (p : ℕ → Bool) where
  found : (r k : ℕ) → (smallest p r k ≡ 0 → ⊥) → (p (smallest p r k) ≡ true) × ((r ≤ smallest p r k) × (smallest p r k < r + k))
  unfolding smallest
  found r zero h = absurd (h refl)
  found r (suc k) h = go (p r) refl (found (suc r) k) h
    where
      go : (t : Bool) → p r ≡ t → ((smallest p (suc r) k ≡ 0 → ⊥) → (p (smallest p (suc r) k) ≡ true) × ((suc r ≤ smallest p (suc r) k) × (smallest p (suc r) k < suc r + k)))
          → (cond t r (smallest p (suc r) k) ≡ 0 → ⊥) → (p (cond t r (smallest p (suc r) k)) ≡ true) × ((r ≤ cond t r (smallest p (suc r) k)) × (cond t r (smallest p (suc r) k) < r + suc k))
      go true e f h = (e, (omega arith, omega arith))
      go false e f h = let q = f h in (q.0, (omega arith, omega arith))

-- what a ratio that fits says: both chroma sides are the quotient by it, rounded up
pub record Fits (n a b r : ℕ) : Type 0 where
  pub some : 1 ≤ r
  pub most : r ≤ 4
  pub one : a ≡ div_ceil n r
  pub other : b ≡ div_ceil n r
  pub less : a ≤ n

pub ratio_fits : (n a b : ℕ) → (ratio_for n a b ≡ 0 → ⊥) → Fits n a b (ratio_for n a b)
unfolding ratio_for
ratio_fits n a b h =
    let r = smallest (fits_both n a b) 1 4 in
    let q = found (fits_both n a b) 1 4 h in
    let d = both_true (eqb a (div_ceil n r)) (eqb b (div_ceil n r)) q.0 in
    let e : a ≡ div_ceil n r = eqb-true a (div_ceil n r) d.0 in
    let l = ceil_most n r q.1.0 in
    record { some = q.1.0; most = omega arith; one = e; other = eqb-true b (div_ceil n r) d.1; less = omega arith }

-- ---- sides as they are held

fits_held : (n a b r : ℕ) → n ≤ 8192 → 0 < r → fits_both n (held a) (held b) r ≡ fits_both n a b r
fits_held n a b r l p =
    let c = ceil_most n r p in
    let e : eqb (held a) (div_ceil n r) ≡ eqb a (div_ceil n r) = held_equal a (div_ceil n r) (omega arith) in
    let d : eqb (held b) (div_ceil n r) ≡ eqb b (div_ceil n r) = held_equal b (div_ceil n r) (omega arith) in
    rw (e, d) refl

smallest_held : (n a b r k : ℕ) → n ≤ 8192 → 0 < r → smallest (fits_both n (held a) (held b)) r k ≡ smallest (fits_both n a b) r k
unfolding smallest
smallest_held n a b r zero l p = refl
smallest_held n a b r (suc k) l p = ap (λ (t : Bool). cond t r (smallest (fits_both n (held a) (held b)) (suc r) k)) (fits_held n a b r l p) ∙ ap (λ (m : ℕ). cond (fits_both n a b r) r m) (smallest_held n a b (suc r) k l (omega arith))

pub ratio_held : (n a b : ℕ) → n ≤ 8192 → ratio_for (held n) (held a) (held b) ≡ ratio_for n a b
unfolding ratio_for
ratio_held n a b l =
    let e : held n ≡ n = omega arith in
    ap (λ (m : ℕ). smallest (fits_both m (held a) (held b)) 1 4) e ∙ smallest_held n a b 1 4 l (omega arith)
