-- Two runs that grow side by side, the second behind the first: what a block puts into the first leaves the second, so that the two puts change
-- places (`put_swap`), and each run grows as one alone would.
use Rattle.std.proofs.Common.{◌≡◌, refl, ap, ◌∙◌, List, [], ◌∷◌, ℕ, zero, suc, ◌+◌, ◌≤◌, ◌<◌, le_of_suc-le-suc, arith, length, get_or, set}
use Rattle.laws.specs.Lists.{put}
use Rattle.laws.proofs.Lists.{length_put, put_before, put_over}

module _ {A : Type 0} where
  set_swap : (xs : List A) (p q : ℕ) (v w : A) → p < q → set (set xs q w) p v ≡ set (set xs p v) q w
  set_swap [] p q v w h = refl
  set_swap (x ∷ xs) p zero v w h = absurd (omega arith)
  set_swap (x ∷ xs) zero (suc q) v w h = refl
  set_swap (x ∷ xs) (suc p) (suc q) v w h = ap (λ (ys : List A). x ∷ ys) (set_swap xs p q v w (le_of_suc-le-suc h))

  set_put : (xs : List A) (at n : ℕ) (f : ℕ → A) (p : ℕ) (v : A) → p < at → set (put xs at n f) p v ≡ put (set xs p v) at n f
  unfolding put
  set_put xs at zero f p v h = refl
  set_put xs at (suc n) f p v h = set_swap (put xs at n f) p (at + n) v (f n) (omega arith) ∙ ap (λ (ys : List A). set ys (at + n) (f n)) (set_put xs at n f p v h)

  -- runs that lie apart may be put in either order
  put_swap : (xs : List A) (a m : ℕ) (f : ℕ → A) (b n : ℕ) (g : ℕ → A) → a + m ≤ b → put (put xs b n g) a m f ≡ put (put xs a m f) b n g
  unfolding put
  put_swap xs a zero f b n g h = refl
  put_swap xs a (suc m) f b n g h =
      ap (λ (ys : List A). set ys (a + m) (f m)) (put_swap xs a m f b n g (omega arith)) ∙ set_put (put xs a m f) b n g (a + m) (f m) (omega arith)

-- ys is xs with n values f at a, and then n values g at b
pub record Pair {A : Type 0} (xs ys : List A) (a b n : ℕ) (f g : ℕ → A) : Type 0 where
  pub len : length ys ≡ length xs
  pub eq : ys ≡ put (put xs a n f) b n g

pub pair_none : {A : Type 0} (xs : List A) (a b : ℕ) (f g : ℕ → A) → Pair xs xs a b 0 f g
unfolding put
pair_none xs a b f g = record { len = refl; eq = refl }

module _ {A : Type 0} {xs ys : List A} {a b n : ℕ} {f g : ℕ → A} (w : Pair xs ys a b n f g) where
  -- what lies before both is as it was
  pub pair_before : a ≤ b → (k : ℕ) (d : A) → k < a → get_or ys k d ≡ get_or xs k d
  pair_before h k d q =
      ap (λ (zs : List A). get_or zs k d) w.eq ∙ put_before (put xs a n f) b n g k d (omega arith) ∙ put_before xs a n f k d q

  -- k more of each, of which the first may be among those before
  pub pair_over : (zs : List A) (i k : ℕ) (d : A) → zs ≡ put (put ys (a + i) k (λ m. f (i + m))) (b + i) k (λ m. g (i + m))
      → i ≤ n → n ≤ i + k → a + (i + k) ≤ b → b + n ≤ length xs → Pair xs zs a b (i + k) f g
  pair_over zs i k d e p q h l =
      let first = put xs a n f in
      let more : List A = put ys (a + i) k (λ m. f (i + m)) in
      let one : more ≡ put (put xs a (i + k) f) b n g
      = ap (λ (s : List A). put s (a + i) k (λ m. f (i + m))) w.eq ∙ put_swap first (a + i) k (λ m. f (i + m)) b n g (omega arith)
      ∙ ap (λ (s : List A). put s b n g) (put_over xs a n f i k d p q (omega arith)) in
      let both : zs ≡ put (put xs a (i + k) f) b (i + k) g
      = e ∙ ap (λ (s : List A). put s (b + i) k (λ m. g (i + m))) one ∙ put_over (put xs a (i + k) f) b n g i k d p q (rw length_put l) in
      record { len = ap length both ∙ length_put (put xs a (i + k) f) b (i + k) g ∙ length_put xs a (i + k) f; eq = both }

  pub pair_end : (m : ℕ) → n ≤ m → m ≤ n → ys ≡ put (put xs a m f) b m g
  pair_end m p q = let e : n ≡ m = omega arith in w.eq ∙ ap (λ (k : ℕ). put (put xs a k f) b k g) e
