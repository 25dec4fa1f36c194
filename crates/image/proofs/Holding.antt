-- Laws of refusal 7's test: the steps by which the code comes to it, and where the samples of a plane that passes stand.
-- `same_test` of laws carries the first part: two comparisons are equal where each side's truth and falsehood give the other's; the rest is arithmetic.
use Rattle.std.proofs.Common.{◌≡◌, refl, true, false, ℕ, ◌+◌, ◌-◌, ◌*◌, ◌≤◌, ◌<◌, arith, mul-le-mul_right, add-mul, ltb, lt-ltb, ltb-false, length}
use Rattle.laws.proofs.Products.{same_test}
use Rattle.laws.proofs.Rows.{row_fits, row_begins}
use Rattle.image.specs.Tests.{bad_plane}
use Rattle.image.proofs.Layouts.{neither}
use Rattle.image.specs.declared.layout.Layout.{Layout}
use Rattle.image.specs.Samples.{Plane, place}
use Rattle.image.specs.Picture.{short_plane, bad_planes, Planes}

-- ---- the steps of the test: the stride is below the row; the data ends before the first row's end; it ends before the last row's

module _ (bytes w h stride len : ℕ) where
  pub stride_below : ltb stride (w * bytes) ≡ true → true ≡ bad_plane bytes w h stride len
  unfolding bad_plane
  stride_below e = rw e refl

  pub first_short : ltb stride (w * bytes) ≡ false → len < w * bytes → true ≡ bad_plane bytes w h stride len
  unfolding bad_plane
  first_short e l = rw (e, lt-ltb len ((h - 1) * stride + w * bytes) (omega arith)) refl

  pub last_short : ltb stride (w * bytes) ≡ false → w * bytes ≤ len → ltb (len - w * bytes) ((h - 1) * stride) ≡ bad_plane bytes w h stride len
  unfolding bad_plane
  last_short e l = rw e (same_test (len - w * bytes) ((h - 1) * stride) len ((h - 1) * stride + w * bytes) (λ k. omega arith) (λ k. omega arith))

-- ---- a plane that passes

-- the rows of a plane that passes lie apart, and the last one ends within the data
pub record Holds (bytes w h stride len : ℕ) : Type 0 where
  pub row : w * bytes ≤ stride
  pub last : (h - 1) * stride + w * bytes ≤ len

pub holds : (bytes w h stride len : ℕ) → bad_plane bytes w h stride len ≡ false → Holds bytes w h stride len
unfolding bad_plane
holds bytes w h stride len e =
    let p = neither (ltb stride (w * bytes)) (ltb len ((h - 1) * stride + w * bytes)) e in
    record { row = ltb-false stride (w * bytes) p.0; last = ltb-false len ((h - 1) * stride + w * bytes) p.1 }

-- row y, its padding left out, ends within the data
pub row_inside : {bytes w h stride len : ℕ} → Holds bytes w h stride len → (y : ℕ) → y < h → y * stride + w * bytes ≤ len
row_inside {bytes} {w} {h} {stride} o y l = omega (arith, o.last, row_begins y h stride l)

-- the sample in column x of row y ends within the data
pub sample_inside : {bytes w h stride len : ℕ} → Holds bytes w h stride len → (x y : ℕ) → x < w → y < h → place bytes stride y x + bytes ≤ len
sample_inside {bytes} {w} o x y k l = omega (arith, row_inside o y l, row_fits x w bytes k)

-- a plane as a call is lent it, with its layout, passes where `short_plane` is false
-- n samples of a row, from column x on
pub run_inside : {bytes w h stride len : ℕ} → Holds bytes w h stride len → (n x y : ℕ) → x + n ≤ w → y < h → place bytes stride y x + n * bytes ≤ len
run_inside {bytes} {w} {h} {stride} o n x y p q =
    let r = row_inside o y q in
    let m : (x + n) * bytes ≤ w * bytes = mul-le-mul_right bytes p in
    let d : (x + n) * bytes ≡ x * bytes + n * bytes = add-mul x n bytes in
    omega arith

pub short_holds : (l : Layout) (w h : ℕ) (p : Plane) → short_plane l w h p ≡ false → Holds l.sample_bytes w h p.stride (length p.bytes)
unfolding short_plane
short_holds l w h p e = holds l.sample_bytes w h p.stride (length p.bytes) e

-- three planes of which none is short
pub record NoneShort (l : Layout) (ps : Planes) : Type 0 where
  pub y : short_plane l l.w l.h ps.y ≡ false
  pub cb : short_plane l l.cw l.ch ps.cb ≡ false
  pub cr : short_plane l l.cw l.ch ps.cr ≡ false

pub none_short : (l : Layout) (ps : Planes) → bad_planes l ps ≡ false → NoneShort l ps
unfolding bad_planes
none_short l ps e =
    let p = neither (short_plane l l.w l.h ps.y) _ e in
    let q = neither (short_plane l l.cw l.ch ps.cb) (short_plane l l.cw l.ch ps.cr) p.1 in
    record { y = p.0; cb = q.0; cr = q.1 }
