-- Laws of stored pixels: chaining runs, comparing them, reading a channel back, and what is left as it was.
-- Inductions on the number of pixels over the library's laws of `set`. The hard one is `pixels_channel`: a byte of an earlier pixel is none of
-- a later one's three, since pixels begin at least three bytes apart.
use Rattle.std.proofs.Common.{◌≡◌, ◌∙◌, refl, ap, ◌≢◌, inl, inr, List, ℕ, zero, suc, ◌+◌, ◌*◌, ◌<◌, ◌≤◌, mul-le-mul_right, eq-or-lt_of_le, le_of_suc-le-suc, add-one, arith, length, get_or, set, length-set, get_or-set_same, get_or-set_other}
use Rattle.kernels.specs.Kernels.{Colour}
use Rattle.kernel_blocks.specs.Stores.{pixel, pixels}
use Rattle.kernel_blocks.specs.Inner.Stores.{channel}

-- ---- one pixel

pub length_pixel : (l : List ℕ) (at : ℕ) (c : Colour) → length (pixel l at c) ≡ length l
unfolding pixel
length_pixel l at c = simp length-set

-- a place that is none of the pixel's three is left
pub pixel_other : (l : List ℕ) (at : ℕ) (c : Colour) (j : ℕ) → j ≢ at → j ≢ at + 1 → j ≢ at + 2 → get_or (pixel l at c) j 0 ≡ get_or l j 0
unfolding pixel
pixel_other l at c j h₀ h₁ h₂ =
    get_or-set_other (set (set l at c.red) (at + 1) c.green) (at + 2) j c.blue 0 h₂
    ∙ get_or-set_other (set l at c.red) (at + 1) j c.green 0 h₁
    ∙ get_or-set_other l at j c.red 0 h₀

-- channel n of it
pub pixel_channel : (l : List ℕ) (at : ℕ) (c : Colour) (n : ℕ) → n < 3 → at + 3 ≤ length l → get_or (pixel l at c) (at + n) 0 ≡ channel c n
unfolding pixel
pixel_channel l at c zero h b =
    let z : at + 0 ≡ at = omega arith in
    rw z
    (get_or-set_other (set (set l at c.red) (at + 1) c.green) (at + 2) at c.blue 0 (omega arith)
    ∙ get_or-set_other (set l at c.red) (at + 1) at c.green 0 (omega arith)
    ∙ get_or-set_same l at c.red 0 (omega arith))
pixel_channel l at c (suc zero) h b =
    get_or-set_other (set (set l at c.red) (at + 1) c.green) (at + 2) (at + 1) c.blue 0 (omega arith)
    ∙ get_or-set_same (set l at c.red) (at + 1) c.green 0 (rw length-set (omega arith))
pixel_channel l at c (suc (suc zero)) h b = get_or-set_same (set (set l at c.red) (at + 1) c.green) (at + 2) c.blue 0 (simp length-set (omega arith))
pixel_channel l at c (suc (suc (suc n))) h b = absurd (omega arith)

-- ---- a run of pixels

module _ (l : List ℕ) (at size : ℕ) (f : ℕ → Colour) where
  pub length_pixels : (n : ℕ) → length (pixels l at size f n) ≡ length l
  unfolding pixels
  length_pixels zero = refl
  length_pixels (suc n) = length_pixel (pixels l at size f n) (at + n * size) (f n) ∙ length_pixels n

  pub pixels_none : l ≡ pixels l at size f 0
  unfolding pixels
  pixels_none = refl

  pub pixels_more : (n : ℕ) → pixel (pixels l at size f n) (at + n * size) (f n) ≡ pixels l at size f (n + 1)
  unfolding pixels
  pixels_more n = rw (add-one n) refl

  -- n pixels and then m more are one run
  pub pixels_add : (g : ℕ → Colour) (n m : ℕ) → ((k : ℕ) → k < m → g k ≡ f (n + k)) → pixels (pixels l at size f n) (at + n * size) size g m ≡ pixels l at size f (n + m)
  unfolding pixels
  pixels_add g n zero e = let z : n ≡ n + 0 = omega arith in ap (pixels l at size f) z
  pixels_add g n (suc m) e =
      let s : n + suc m ≡ suc (n + m) = omega arith in
      let q : at + n * size + m * size ≡ at + (n + m) * size = omega arith in
      rw (pixels_add g n m (λ k h. e k (omega arith)), e m (omega arith), q, s) refl

  -- runs of equal pixels are equal
  pub pixels_same : (g : ℕ → Colour) (n : ℕ) → ((k : ℕ) → k < n → f k ≡ g k) → pixels l at size f n ≡ pixels l at size g n
  unfolding pixels
  pixels_same g zero e = refl
  pixels_same g (suc n) e = rw (pixels_same g n (λ k h. e k (omega arith)), e n (omega arith)) refl

  -- a place that is no pixel's colour byte is left
  pub pixels_other : (n j : ℕ) → ((k c : ℕ) → k < n → c < 3 → j ≢ at + k * size + c) → get_or (pixels l at size f n) j 0 ≡ get_or l j 0
  unfolding pixels
  pixels_other zero j h = refl
  pixels_other (suc n) j h =
      pixel_other (pixels l at size f n) (at + n * size) (f n) j
      (let e : j ≢ at + n * size + 0 = h n 0 (omega arith) (omega arith) in omega arith)
      (h n 1 (omega arith) (omega arith))
      (h n 2 (omega arith) (omega arith))
      ∙ pixels_other n j (λ k c a b. h k c (omega arith) b)

  -- one before the run
  pub before : (n j : ℕ) → j < at → get_or (pixels l at size f n) j 0 ≡ get_or l j 0
  before n j h = pixels_other n j (λ i c a b. omega arith)

  -- one after it
  pub after : (n j : ℕ) → 3 ≤ size → at + n * size ≤ j → get_or (pixels l at size f n) j 0 ≡ get_or l j 0
  after n j t h = pixels_other n j (λ i c a b. let m : (i + 1) * size ≤ n * size = mul-le-mul_right size (omega arith) in omega arith)

  -- channel c of pixel k is read back
  pub pixels_channel : (n k c : ℕ) → k < n → c < 3 → 3 ≤ size → at + n * size ≤ length l → get_or (pixels l at size f n) (at + k * size + c) 0 ≡ channel (f k) c
  unfolding pixels
  pixels_channel zero k c h b t m = absurd (omega arith)
  pixels_channel (suc n) k c h b t m =
      elim (eq-or-lt_of_le (le_of_suc-le-suc h)) [
        | inl e ↦ rw e (pixel_channel (pixels l at size f n) (at + n * size) (f n) c b (rw length_pixels (omega arith)))
        | inr q ↦
            let s : (k + 1) * size ≤ n * size = mul-le-mul_right size (omega arith) in
            pixel_other (pixels l at size f n) (at + n * size) (f n) (at + k * size + c) (omega arith) (omega arith) (omega arith)
            ∙ pixels_channel n k c q b t (omega arith)
      ]

-- "The fourth keeps what it held."
pub fourth : (l : List ℕ) (at : ℕ) (f : ℕ → Colour) (n k : ℕ) → get_or (pixels l at 4 f n) (at + k * 4 + 3) 0 ≡ get_or l (at + k * 4 + 3) 0
fourth l at f n k = pixels_other l at 4 f n (at + k * 4 + 3) (λ i c a b. omega arith)
