-- Every guided sample lies within the extremes of the nine chroma cells round its own, and is no not-a-number.
-- The last two operations of a value are its limits, so that it lies between them whatever came before (`between`). The hard step is that the
-- limits are floats: up to 65,535 whole numbers are exact as f32, so that they compare as numbers do (`values_compare`).
use Rattle.std.proofs.Common.{◌≡◌, refl, sym, ap, Bool, true, false, not, cond, ℕ, ◌+◌, ◌-◌, ◌/◌, ◌≤◌, ◌<◌, min, max, mul-le-mul_right, le_trans, arith, T, lit<, Float}
use native.Mathlib.Nat.{min-le_left, le-max_left}
use lib.Ieee.{nan, inf, fin, binary32, lt, le, is_nan, of_int}
use lib.Ieee.Order.{round_mono}
use Rattle.laws.specs.Floats.{f32}
use Rattle.laws.proofs.Order.{not_nan_right}
use Rattle.laws.proofs.Values.{whole_value, values_compare}
use Rattle.image.specs.declared.layout.Layout.{Layout}
use Rattle.image.specs.declared.chroma.Chroma.{Chroma}
use Rattle.image.specs.Picture.{Picture}
use Rattle.fround.specs.Rounding.{fmin, fmax}
use Rattle.fround.proofs.Laws.{between}
use Rattle.guided.specs.Guided.{three, extreme_of, extreme, value_of, guided_sample}
use Rattle.guided.specs.Events.{three_n, nine, Within}

-- ---- whole numbers as floats keep their order

whole_mono : (m n : ℕ) → m ≤ n → T (le (f32 m) (f32 n))
unfolding of_int
whole_mono m n h = round_mono binary32 m 1 n 1 (lit< tt) (lit< tt) (mul-le-mul_right 1 h)

whole_compare : (a b : ℕ) → a ≤ 65535 → b ≤ 65535 → (T (lt (f32 a) (f32 b)) → a < b) × (T (not (lt (f32 a) (f32 b))) → b ≤ a)
whole_compare a b h k = values_compare (f32 a) (f32 b) a b (whole_value a (omega arith)) (whole_value b (omega arith))

-- the least and the greatest of two, as floats and as numbers
pub fmin_whole : (x y : ℕ) → x ≤ 65535 → y ≤ 65535 → fmin (f32 x) (f32 y) ≡ f32 (min x y)
fmin_whole x y X Y = let v = whole_compare x y X Y in go (lt (f32 x) (f32 y)) v.0 v.1
  where
    go : (b : Bool) → (T b → x < y) → (T (not b) → y ≤ x) → cond b (f32 x) (f32 y) ≡ f32 (min x y)
    go true l r = let k : min x y ≡ x = omega (arith, l tt) in ap f32 (sym k)
    go false l r = let k : min x y ≡ y = omega (arith, r tt) in ap f32 (sym k)

pub fmax_whole : (x y : ℕ) → x ≤ 65535 → y ≤ 65535 → fmax (f32 x) (f32 y) ≡ f32 (max x y)
fmax_whole x y X Y = let v = whole_compare y x Y X in go (lt (f32 y) (f32 x)) v.0 v.1
  where
    go : (b : Bool) → (T b → y < x) → (T (not b) → x ≤ y) → cond b (f32 x) (f32 y) ≡ f32 (max x y)
    go true l r = let k : max x y ≡ x = omega (arith, l tt) in ap f32 (sym k)
    go false l r = let k : max x y ≡ y = omega (arith, r tt) in ap f32 (sym k)

-- ---- the least and the greatest of nine

-- an operation on floats that does what one on numbers does, on numbers up to 65,535, among which it stays
module _ (fop : Float → Float → Float) (op : ℕ → ℕ → ℕ) (same : (x y : ℕ) → x ≤ 65535 → y ≤ 65535 → fop (f32 x) (f32 y) ≡ f32 (op x y)) (stays : (x y : ℕ) → x ≤ 65535 → y ≤ 65535 → op x y ≤ 65535) where
  three_small : (n : ℕ) (f : ℕ → ℕ) (i : ℕ) → ((q : ℕ) → f q ≤ 65535) → three_n op n f i ≤ 65535
  unfolding three_n
  three_small n f i s = stays _ _ (stays _ _ (s (i - 1)) (s i)) (s (min (i + 1) (n - 1)))

  three_same : (n : ℕ) (f : ℕ → ℕ) (g : ℕ → Float) (i : ℕ) → ((q : ℕ) → f q ≤ 65535) → ((q : ℕ) → g q ≡ f32 (f q)) → three fop n g i ≡ f32 (three_n op n f i)
  unfolding three three_n
  three_same n f g i s e =
      rw (e (i - 1), e i, e (min (i + 1) (n - 1)), same (f (i - 1)) (f i) (s (i - 1)) (s i)) (same (op (f (i - 1)) (f i)) (f (min (i + 1) (n - 1))) (stays _ _ (s (i - 1)) (s i)) (s (min (i + 1) (n - 1))))

  extreme_same : (l : Layout) (c : ℕ → ℕ → ℕ) (j i : ℕ) → ((y x : ℕ) → c y x ≤ 65535) → extreme_of l fop c j i ≡ f32 (three_n op l.ch (λ r. three_n op l.cw (λ q. c r q) i) j)
  unfolding extreme_of
  extreme_same l c j i s =
      three_same l.ch (λ r. three_n op l.cw (λ q. c r q) i) (λ r. three fop l.cw (λ q. f32 (c r q)) i) j
      (λ r. three_small l.cw (λ q. c r q) i (λ q. s r q))
      (λ r. three_same l.cw (λ q. c r q) (λ q. f32 (c r q)) i (λ q. s r q) (λ q. refl))

-- the least and the greatest of nine floats are those of nine numbers
pub least_of : (l : Layout) (c : ℕ → ℕ → ℕ) (j i : ℕ) → ((y x : ℕ) → c y x ≤ 65535) → extreme_of l fmin c j i ≡ f32 (three_n min l.ch (λ r. three_n min l.cw (λ q. c r q) i) j)
least_of = extreme_same fmin min fmin_whole (λ x y X Y. omega arith)

pub greatest_of : (l : Layout) (c : ℕ → ℕ → ℕ) (j i : ℕ) → ((y x : ℕ) → c y x ≤ 65535) → extreme_of l fmax c j i ≡ f32 (three_n max l.ch (λ r. three_n max l.cw (λ q. c r q) i) j)
greatest_of = extreme_same fmax max fmax_whole (λ x y X Y. omega arith)

pub least_is : (p : Picture) (k : Chroma) (j i : ℕ) → ((y x : ℕ) → p.chroma k y x ≤ 65535) → extreme p fmin k j i ≡ f32 (nine min p k j i)
unfolding nine extreme
least_is p k = least_of p.layout (p.chroma k)

pub greatest_is : (p : Picture) (k : Chroma) (j i : ℕ) → ((y x : ℕ) → p.chroma k y x ≤ 65535) → extreme p fmax k j i ≡ f32 (nine max p k j i)
unfolding nine extreme
greatest_is p k = greatest_of p.layout (p.chroma k)

nine_ordered : (p : Picture) (k : Chroma) (i j : ℕ) → nine min p k j i ≤ nine max p k j i
unfolding nine three_n
nine_ordered p k i j = le_trans (le_trans (min-le_left _ _) (min-le_left _ _)) (le_trans (one (j - 1)) (le_trans (le-max_left _ _) (le-max_left _ _)))
  where
    one : (r : ℕ) → three_n min p.layout.cw (λ q. p.chroma k r q) i ≤ three_n max p.layout.cw (λ q. p.chroma k r q) i
    one r = le_trans (le_trans (min-le_left _ _) (min-le_left _ _)) (le_trans (le-max_left _ _) (le-max_left _ _))

-- each sample lies between the least and the greatest of the nine cells round its own
pub guided_within : (p : Picture) (k : Chroma) (y x : ℕ) → ((j i : ℕ) → p.chroma k j i ≤ 65535) → Within p k (y / p.layout.rv) (x / p.layout.rh) (guided_sample p k y x)
unfolding guided_sample value_of Within
guided_within p k y x s =
    let i = x / p.layout.rh in
    let j = y / p.layout.rv in
    rw (least_is p k j i s, greatest_is p k j i s) (between _ (f32 (nine min p k j i)) (f32 (nine max p k j i)) (whole_mono _ _ (nine_ordered p k i j)))

-- what lies there is no not-a-number
pub within_number : (p : Picture) (k : Chroma) (i j : ℕ) (v : Float) → Within p k j i v → is_nan v ≡ false
unfolding Within is_nan
within_number p k i j nan h = absurd (not_nan_right _ nan h.0 refl)
within_number p k i j (inf s) h = refl
within_number p k i j (fin s m e) h = refl
