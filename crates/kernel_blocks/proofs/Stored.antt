-- A loop that stores pixels: its invariant is `Stored`, and its steps are `stored_none`, `stored_more`, `stored_over` and `stored_end`.
-- The hard one is `stored_over`, a last block that overlaps what is stored: it is split where that ends (`pixels_over`), its first part
-- changes nothing (`pixels_again`), and the rest chains on (`pixels_add`).
use Rattle.std.proofs.Common.{◌≡◌, refl, sym, ap, ◌∙◌, List, ℕ, zero, suc, ◌+◌, ◌-◌, ◌*◌, ◌≤◌, ◌<◌, min, mul-le-mul_right, le_of_lt, arith, length, get_or}
use lib.Seq.{set-get_or}
use Rattle.kernels.specs.Kernels.{Colour}
use Rattle.kernel_blocks.specs.Stores.{pixel, pixels}
use Rattle.kernel_blocks.specs.Inner.Stores.{channel}
use Rattle.kernel_blocks.proofs.Puts.{length_pixel, length_pixels, pixels_none, pixels_more, pixels_add, pixels_same, pixels_channel}

-- ---- pixels stored a second time

-- a pixel whose bytes stand there already
pixel_again : (l : List ℕ) (at : ℕ) (c : Colour) → ((n : ℕ) → n < 3 → get_or l (at + n) 0 ≡ channel c n) → pixel l at c ≡ l
unfolding pixel
pixel_again l at c h =
    let r : get_or l (at + 0) 0 ≡ c.red = h 0 (omega arith) in
    let z : at + 0 ≡ at = omega arith in
    rw (← r, ← h 1 (omega arith), ← h 2 (omega arith), z, set-get_or, set-get_or, set-get_or) refl

-- storing pixels that are already stored so changes nothing: m of the first n, from pixel p on
pub pixels_again : (l : List ℕ) (at size : ℕ) (f : ℕ → Colour) (n p m : ℕ) → 3 ≤ size → at + n * size ≤ length l → p + m ≤ n → pixels (pixels l at size f n) (at + p * size) size (λ k. f (p + k)) m ≡ pixels l at size f n
unfolding pixels
pixels_again l at size f n p zero t b h = refl
pixels_again l at size f n p (suc m) t b h =
    let q : at + p * size + m * size ≡ at + (p + m) * size = omega arith in
    rw (pixels_again l at size f n p m t b (omega arith), q) (pixel_again (pixels l at size f n) (at + (p + m) * size) (f (p + m)) (λ c i. pixels_channel l at size f n (p + m) c (omega arith) i t b))

-- m pixels stored from p on, of which the first d are stored already
pixels_over : (l : List ℕ) (at size : ℕ) (f : ℕ → Colour) (n p m d e : ℕ) → n ≡ p + d → m ≡ d + e → 3 ≤ size → at + n * size ≤ length l → pixels (pixels l at size f n) (at + p * size) size (λ k. f (p + k)) m ≡ pixels l at size f (p + m)
pixels_over l at size f n p m d e en em t b =
    let q : at + p * size + d * size ≡ at + n * size = rw en (omega arith) in
    let s : n + e ≡ p + m = omega arith in
    let h : ℕ → Colour = λ k. f (p + k) in
    ap (pixels (pixels l at size f n) (at + p * size) size h) em
    ∙ sym (pixels_add (pixels l at size f n) (at + p * size) size h (λ k. h (d + k)) d e (λ k i. refl))
    ∙ ap (λ (x : List ℕ). pixels x (at + p * size + d * size) size (λ k. h (d + k)) e) (pixels_again l at size f n p d t b (omega arith))
    ∙ ap (λ (x : ℕ). pixels (pixels l at size f n) x size (λ k. h (d + k)) e) q
    ∙ pixels_add l at size f (λ k. h (d + k)) n e (λ k i. ap f (omega arith))
    ∙ ap (pixels l at size f) s

-- ---- the loop

-- ys is xs after the first n pixels of f were stored from `at` on
pub record Stored (xs ys : List ℕ) (at size n : ℕ) (f : ℕ → Colour) : Type 0 where
  pub len : length ys ≡ length xs
  pub eq : ys ≡ pixels xs at size f n

pub stored_none : (xs : List ℕ) (at size : ℕ) (f : ℕ → Colour) → Stored xs xs at size 0 f
stored_none xs at size f = record { len = refl; eq = pixels_none xs at size f }

module _ {xs ys : List ℕ} {at size n : ℕ} {f : ℕ → Colour} (r : Stored xs ys at size n f) where
  -- a pixel more
  pub stored_more : (zs : List ℕ) (c : Colour) → zs ≡ pixel ys (at + n * size) c → c ≡ f n → Stored xs zs at size (n + 1) f
  stored_more zs c z e = record {
    len = ap length z ∙ length_pixel ys (at + n * size) c ∙ r.len;
    eq = z ∙ rw (r.eq, e) (pixels_more xs at size f n);
  }

  -- a block of m pixels from pixel p on, which may overlap what is stored
  pub stored_over : (zs : List ℕ) (p m : ℕ) (g : ℕ → Colour) → zs ≡ pixels ys (at + p * size) size g m → p ≤ n → n ≤ p + m → 3 ≤ size → at + n * size ≤ length xs → ((i : ℕ) → i < m → g i ≡ f (p + i)) → Stored xs zs at size (p + m) f
  stored_over zs p m g z a b t l h = record {
    len = ap length z ∙ length_pixels ys (at + p * size) size g m ∙ r.len;
    eq = z ∙ pixels_same ys (at + p * size) size g (λ k. f (p + k)) m h ∙ rw r.eq (pixels_over xs at size f n p m (n - p) (p + m - n) (omega arith) (omega arith) t l);
  }

  -- the loop's end, at the bound m
  pub stored_end : (m : ℕ) → n ≤ m → m ≤ n → ys ≡ pixels xs at size f m
  stored_end m a b = let e : n ≡ m = omega arith in r.eq ∙ ap (pixels xs at size f) e

-- ---- a row of w pixels by blocks of sixteen, the last of which ends with the row

-- where a block begins when n pixels are stored: not behind these, so that it joins them, and early enough to end in the row and in `room` bytes
pub record BlockPlace (w at size room n x : ℕ) : Type 0 where
  pub joins : x ≤ n
  pub on : n < x + 16
  pub inside : x + 16 ≤ w
  pub fits : at + x * size + 16 * size ≤ room

module _ {xs ys : List ℕ} {at size n : ℕ} {f : ℕ → Colour} (r : Stored xs ys at size n f) (w x : ℕ) (e : x ≡ min n (w - 16)) (wide : 16 ≤ w) (left : n < w) (room : at + w * size ≤ length xs) where
  pub block_place : BlockPlace w at size (length ys) n x
  block_place =
      let l = r.len in
      let i : x + 16 ≤ w = omega arith in
      record { joins = omega arith; on = omega arith; inside = i; fits = omega (arith, mul-le-mul_right size i) }

  -- the block stored
  pub block_stored : (zs : List ℕ) (g : ℕ → Colour) → zs ≡ pixels ys (at + x * size) size g 16 → 3 ≤ size → ((i : ℕ) → i < 16 → g i ≡ f (x + i)) → (x + 16 ≤ w) × Stored xs zs at size (x + 16) f
  block_stored zs g z t h =
      let p = block_place in
      (p.inside, stored_over r zs x 16 g z p.joins (omega arith) t (omega (arith, mul-le-mul_right size (le_of_lt left))) h)
