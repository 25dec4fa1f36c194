-- The rows of out: where they lie, and that each is the row of the picture's colours.
-- Products of limited numbers don't wrap, and row y of h ends before the end of out. The hard step is `pixel_is`: scratch's two finished rows
-- are the picture's chroma by `chroma_is`, and luma inside the picture is the plane's.
use Rattle.std.proofs.Common.{◌≡◌, refl, ap, ◌∙◌, List, ℕ, ◌+◌, ◌*◌, ◌≤◌, ◌<◌, mul-le-mul, add-one, arith, length, Float}
use Rattle.laws.proofs.Rows.{row_fits}
use Rattle.image.specs.declared.layout.Layout.{Layout}
use Rattle.image.specs.Samples.{sample_at}
use Rattle.image.specs.declared.chroma.Chroma.TheVariants.{Cb, Cr}
use Rattle.image.specs.Picture.{picture_of, Planes}
use Rattle.image.proofs.Pictures.{inside_is}
use Rattle.image.specs.Scratch.{scratch_need}
use Rattle.guided.specs.Scratch.{finished_at}
use Rattle.kernels.specs.Kernels.{Colour}
use Rattle.kernel_blocks.specs.Stores.{pixels}
use Rattle.kernel_blocks.proofs.Puts.{length_pixels, pixels_same}
use Rattle.kernels.specs.declared.kernel.YcbcrKernel.{YcbcrKernel}
use Rattle.colour_rows.specs.Inner.Colours.{ranged_pixel, ranged_row}
use Rattle.fill.specs.declared.options.ChromaUpsampling.{ChromaUpsampling}
use Rattle.fill.specs.Fill.{fill_colour, pixel_rows}
use Rattle.fill.specs.Inner.Steps.{fill_step, ChromaLent, FillLent}
use Rattle.fill.proofs.Chroma.{Scratched, chroma_is}

-- a row of out is no product that wraps, and fits out: it has at most 8,192·4 bytes, and begins at no more than 8,192 times that
module _ {up : ChromaUpsampling} {l : Layout} {ps : Planes} {size space room : ℕ} (c : FillLent up l ps size space room) where
  pub row_bytes_is : l.w * size ≤ 32768
  row_bytes_is = mul-le-mul c.lent.shaped.w_most c.size_most

  pub row_begins : (y : ℕ) → y < l.h → y * (l.w * size) ≤ 268435456
  row_begins y Y = let h = c.lent.shaped.h_most in let e : y ≤ 8192 = omega arith in mul-le-mul e row_bytes_is

  pub row_room : (y : ℕ) → y < l.h → y * (l.w * size) + l.w * size ≤ room
  row_room y Y =
      let e : l.h * (l.w * size) ≡ l.w * l.h * size = omega arith in
      let o = c.output in
      omega (arith, row_fits y l.h (l.w * size) Y)

-- ---- the loop

-- out after rows a, .. a + n - 1
pub record Painted (w size : ℕ) (f : ℕ → ℕ → Colour) (a n : ℕ) (before after : List ℕ) : Type 0 where
  pub len : length after ≡ length before
  pub eq : after ≡ pixel_rows w size f a n before

pub painted_none : (w size : ℕ) (f : ℕ → ℕ → Colour) (a : ℕ) (out : List ℕ) → Painted w size f a 0 out out
unfolding pixel_rows
painted_none w size f a out = record { len = refl; eq = refl }

module _ {w size : ℕ} {f : ℕ → ℕ → Colour} {a n : ℕ} {before after : List ℕ} (p : Painted w size f a n before after) where
  pub painted_more : (out : List ℕ) → out ≡ pixels after ((a + n) * (w * size)) size (f (a + n)) w → Painted w size f a (n + 1) before out
  unfolding pixel_rows
  painted_more out e = record {
    len = ap length e ∙ length_pixels after ((a + n) * (w * size)) size (f (a + n)) w ∙ p.len;
    eq = rw (add-one n) (e ∙ ap (λ (z : List ℕ). pixels z ((a + n) * (w * size)) size (f (a + n)) w) p.eq);
  }

  pub painted_end : (m : ℕ) → n ≤ m → m ≤ n → after ≡ pixel_rows w size f a m before
  painted_end m h k = let e : n ≡ m = omega arith in p.eq ∙ ap (λ (i : ℕ). pixel_rows w size f a i before) e

-- ---- the row that is made of a step's chroma

module _ (up : ChromaUpsampling) (kernel : YcbcrKernel) (l : Layout) (ps : Planes) (o : ChromaLent up l ps) (a n : ℕ) (before after : List Float) (w : Scratched up l ps a n before after) (L : scratch_need l ≤ length before) (Y : a + n < l.h) where
  pixel_is : (x : ℕ) → x < l.w → ranged_pixel kernel l ps.y (a + n) (fill_step up l ps a n after) x ≡ fill_colour up kernel (picture_of l ps) (a + n) x
  unfolding ranged_pixel fill_colour finished_at picture_of
  pixel_is x X =
      let chroma = chroma_is up l ps o a n before after w L Y in
      rw (chroma Cb x X, chroma Cr x X, inside_is l.w l.h (sample_at l.sample_bytes ps.y) x (a + n) X Y) refl

  pub row_is : (at size : ℕ) (out : List ℕ) → ranged_row kernel l ps.y (a + n) (fill_step up l ps a n after) at size out ≡ pixels out at size (fill_colour up kernel (picture_of l ps) (a + n)) l.w
  unfolding ranged_row
  row_is at size out = pixels_same out at size _ _ l.w pixel_is
