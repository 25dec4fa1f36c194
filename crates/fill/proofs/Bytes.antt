-- Out after a fill, byte by byte: "every R, G, B byte is the kernel's", and the fourth byte of a pixel and all surplus keep what they held.
-- An induction over the rows: each row is `pixels`, whose channels, fourth bytes and surroundings kernel_blocks' laws say. The hard step is
-- `channel_is`: a later row begins behind every byte of an earlier one (`row_fits`, twice).
use Rattle.std.proofs.Common.{◌≡◌, refl, sym, ◌∙◌, inl, inr, true, List, ℕ, zero, suc, ◌+◌, ◌*◌, ◌≤◌, ◌<◌, eq-or-lt_of_le, le_of_suc-le-suc, arith, length, get_or, Float}
use Rattle.laws.specs.Refusals.{Answer, accepted}
use Rattle.laws.proofs.Refusals.{accepted_is}
use Rattle.laws.proofs.Rows.{row_fits}
use Rattle.image.specs.Picture.{picture_of}
use Rattle.kernels.specs.Kernels.{Colour}
use Rattle.kernel_blocks.specs.Inner.Stores.{channel}
use Rattle.kernel_blocks.proofs.Puts.{length_pixels, pixels_other, before, after, pixels_channel}
use Rattle.fill.specs.Tests.{FillCall}
use Rattle.fill.specs.Fill.{FillGiven, fill_colour, pixel_rows}
use Rattle.fill.specs.Inner.Steps.{FillLent}
use Rattle.fill.proofs.Acceptance.{ready}

module _ (w size : ℕ) (f : ℕ → ℕ → Colour) (a : ℕ) (out : List ℕ) where
  length_rows : (n : ℕ) → length (pixel_rows w size f a n out) ≡ length out
  unfolding pixel_rows
  length_rows zero = refl
  length_rows (suc n) = length_pixels _ ((a + n) * (w * size)) size (f (a + n)) w ∙ length_rows n

  -- what lies behind the rows is as it was
  pub surplus_kept : (n j : ℕ) → 3 ≤ size → (a + n) * (w * size) ≤ j → get_or (pixel_rows w size f a n out) j 0 ≡ get_or out j 0
  unfolding pixel_rows
  surplus_kept zero j t h = refl
  surplus_kept (suc n) j t h = after _ ((a + n) * (w * size)) size (f (a + n)) w j t (omega arith) ∙ surplus_kept n j t (omega arith)

  -- channel c of column x of row a + m
  pub channel_is : (n m x c : ℕ) → m < n → x < w → c < 3 → 3 ≤ size → (a + n) * (w * size) ≤ length out
      → get_or (pixel_rows w size f a n out) ((a + m) * (w * size) + x * size + c) 0 ≡ channel (f (a + m) x) c
  unfolding pixel_rows
  channel_is zero m x c M X C t h = absurd (omega arith)
  channel_is (suc n) m x c M X C t h =
      elim (eq-or-lt_of_le (le_of_suc-le-suc M)) [
        | inl e ↦ rw e (pixels_channel (pixel_rows w size f a n out) ((a + n) * (w * size)) size (f (a + n)) w x c X C t (rw length_rows (omega arith)))
        | inr q ↦
            before (pixel_rows w size f a n out) ((a + n) * (w * size)) size (f (a + n)) w ((a + m) * (w * size) + x * size + c) (omega (arith, row_fits (a + m) (a + n) (w * size) (omega arith), row_fits x w size X))
            ∙ channel_is n m x c q X C t (omega arith)
      ]

-- the fourth byte of column x of row y
pub fourth_kept : (w : ℕ) (f : ℕ → ℕ → Colour) (a n : ℕ) (out : List ℕ) (x y : ℕ) → get_or (pixel_rows w 4 f a n out) (y * (w * 4) + x * 4 + 3) 0 ≡ get_or out (y * (w * 4) + x * 4 + 3) 0
unfolding pixel_rows
fourth_kept w f a zero out x y = refl
fourth_kept w f a (suc n) out x y =
    pixels_other (pixel_rows w 4 f a n out) ((a + n) * (w * 4)) 4 (f (a + n)) w (y * (w * 4) + x * 4 + 3) (λ k c K C. omega arith)
    ∙ fourth_kept w f a n out x y

-- ---- a fill that was accepted

module _ (k : FillCall) (answer : Answer) (s' : List Float) (out' : List ℕ) (g : FillGiven k answer s' out') (e : accepted answer ≡ true) where
  painted : out' ≡ pixel_rows k.layout.w k.size (fill_colour k.upsampling k.kernel (picture_of k.layout k.planes)) 0 k.layout.h k.out
  painted = rw e at g.gives

  lent : FillLent k.upsampling k.layout k.planes k.size (length k.scratch) (length k.out)
  lent = ready k (sym g.answers ∙ accepted_is answer e)

  -- red, green and blue of column x of row y
  pub byte_is : (x y c : ℕ) → x < k.layout.w → y < k.layout.h → c < 3
      → get_or out' (y * (k.layout.w * k.size) + x * k.size + c) 0 ≡ channel (fill_colour k.upsampling k.kernel (picture_of k.layout k.planes) y x) c
  byte_is x y c X Y C =
      let l = k.layout in
      let f = fill_colour k.upsampling k.kernel (picture_of l k.planes) in
      let z : 0 + y ≡ y = omega arith in
      let o = lent.output in
      let m : (0 + l.h) * (l.w * k.size) ≡ l.w * l.h * k.size = omega arith in
      rw painted (rw z at (channel_is l.w k.size f 0 k.out l.h y x c Y X C lent.size_least (omega arith)))

  -- what lies behind the picture
  pub kept_behind : (j : ℕ) → k.layout.w * k.layout.h * k.size ≤ j → get_or out' j 0 ≡ get_or k.out j 0
  kept_behind j h =
      let l = k.layout in
      let m : (0 + l.h) * (l.w * k.size) ≡ l.w * l.h * k.size = omega arith in
      rw painted (surplus_kept l.w k.size (fill_colour k.upsampling k.kernel (picture_of l k.planes)) 0 k.out l.h j lent.size_least (omega arith))

  -- "The fourth keeps what it held."
  pub kept_fourth : (x y : ℕ) → k.size ≡ 4 → get_or out' (y * (k.layout.w * 4) + x * 4 + 3) 0 ≡ get_or k.out (y * (k.layout.w * 4) + x * 4 + 3) 0
  kept_fourth x y z = rw (painted, z) (fourth_kept k.layout.w (fill_colour k.upsampling k.kernel (picture_of k.layout k.planes)) 0 k.layout.h k.out x y)
