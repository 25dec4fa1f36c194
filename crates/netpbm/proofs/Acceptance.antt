-- What an input that is read has: a layout that passes refusals 2 to 5, and three planes whose rows lie inside the input (`Taken`).
-- None of the reading's tests applied, so each image lies inside (`image_inside`) and each ratio fits (`ratio_fits`). The step that is
-- in no test is that Cr's rows end inside by Cb's sides: both chroma images fit the same ratio (`same_sides`) and have the same maxval.
use Rattle.std.proofs.Common.{◌≡◌, refl, sym, ◌∙◌, Bool, true, false, ◌&&◌, ◌||◌, not, cond, List, ◌++◌, ℕ, ◌+◌, ◌*◌, ◌≤◌, mul-one, arith, ltb, eqb, length, ltb-false, le-ltb, eq-eqb, Ok, Err}
use borrow.Author.Tests.{eqb-false}
use Rattle.laws.specs.Refusals.{Answer, first}
use Rattle.laws.specs.Numbers.{outside_of}
use Rattle.laws.proofs.Refusals.{Failed, accepted_failed, failed_accepted, failed_both}
use Rattle.image.specs.Tests.{div_ceil, bad_size, bad_ratio, most_of, bad_samples, bad_range, bad_chroma, bad_siting, layout_tests, tests_for}
use Rattle.image.proofs.Layouts.{neither}
use Rattle.netpbm.specs.Bytes.{big_of}
use Rattle.netpbm.specs.Images.{width_of, height_of, maxval_of, sample_bytes, row_bytes, image_end, image_sample, image_tests}
use Rattle.netpbm.specs.Reading.{cb_at, cr_at, input_layout, no_ratio, images_tests, whole_tests, reading_tests}
use Rattle.netpbm.specs.Inner.Reading.{input_reading, pick_reading, reading_of}
use Rattle.netpbm.specs.Inner.Taken.{Taken}
use Rattle.netpbm.proofs.Fields.{ImageInside, image_inside, rows_behind}
use Rattle.netpbm.proofs.Ratios.{Fits, ratio_fits}
use Rattle.netpbm.specs.declared.reading.Reading.{Reading}

module _ (s : List ℕ) (a : first (reading_tests s) ≡ Ok tt) where
  short_is : length s ≤ 49152
  unfolding reading_tests
  short_is = ltb-false 49152 (length s) (accepted_failed (reading_tests s) a).0

  parts : Failed (images_tests s) × Failed (whole_tests s)
  unfolding reading_tests
  parts = failed_both (images_tests s) (whole_tests s) (accepted_failed (reading_tests s) a).1

  -- the three images
  three : ImageInside s 0 × (ImageInside s (cb_at s) × ImageInside s (cr_at s))
  unfolding images_tests
  three =
      let q = failed_both (image_tests s 0 ++ image_tests s (cb_at s)) (image_tests s (cr_at s)) parts.0 in
      let r = failed_both (image_tests s 0) (image_tests s (cb_at s)) q.0 in
      (image_inside s 0 short_is (failed_accepted (image_tests s 0) r.0), (image_inside s (cb_at s) short_is (failed_accepted (image_tests s (cb_at s)) r.1), image_inside s (cr_at s) short_is (failed_accepted (image_tests s (cr_at s)) q.1)))

  size_passed : bad_size (input_layout s) ≡ false
  unfolding whole_tests
  size_passed = parts.1.1.0

  ratios : ((input_layout s).rh ≡ 0 → ⊥) × ((input_layout s).rv ≡ 0 → ⊥)
  unfolding whole_tests no_ratio
  ratios = let n = neither (eqb (input_layout s).rh 0) (eqb (input_layout s).rv 0) parts.1.1.1.0 in (eqb-false (input_layout s).rh 0 n.0, eqb-false (input_layout s).rv 0 n.1)

  across : Fits (input_layout s).w (input_layout s).cw (width_of s (cr_at s)) (input_layout s).rh
  unfolding input_layout
  across = ratio_fits (width_of s 0) (width_of s (cb_at s)) (width_of s (cr_at s)) ratios.0

  down : Fits (input_layout s).h (input_layout s).ch (height_of s (cr_at s)) (input_layout s).rv
  unfolding input_layout
  down = ratio_fits (height_of s 0) (height_of s (cb_at s)) (height_of s (cr_at s)) ratios.1

  -- refusals 3, 4, 18 and 5 don't apply to the layout
  ratio_passed : bad_ratio true (input_layout s) ≡ false
  unfolding bad_ratio input_layout
  ratio_passed =
      let h = across in
      let v = down in
      let a : ltb (input_layout s).rh 1 ≡ false = le-ltb (input_layout s).rh 1 h.some in
      let b : ltb 4 (input_layout s).rh ≡ false = le-ltb 4 (input_layout s).rh h.most in
      let c : ltb (input_layout s).rv 1 ≡ false = le-ltb (input_layout s).rv 1 v.some in
      let d : ltb 4 (input_layout s).rv ≡ false = le-ltb 4 (input_layout s).rv v.most in
      rw (a, b, c, d) refl

  samples_passed : bad_samples false (input_layout s) ≡ false
  unfolding bad_samples input_layout sample_bytes
  samples_passed = go (ltb 255 m) (ltb-false 255 m)
    where
      m : ℕ
      m = maxval_of s 0

      go : (t : Bool) → (t ≡ false → m ≤ 255) → ((outside_of 1 2 (cond t 2 1) || outside_of 1 (most_of (cond t 2 1)) m) || (false && not (eqb m 255))) ≡ false
      go true f = rw (le-ltb m 1 three.0.maxval_some, le-ltb 65535 m three.0.maxval_most) refl
      go false f = rw (le-ltb m 1 three.0.maxval_some, le-ltb 255 m (f refl)) refl

  range_passed : bad_range false (input_layout s).range (input_layout s).maxval ≡ false
  unfolding bad_range input_layout
  range_passed = refl

  chroma_passed : bad_chroma (input_layout s) ≡ false
  unfolding bad_chroma input_layout
  chroma_passed =
      let b : eqb (input_layout s).cw (div_ceil (input_layout s).w (input_layout s).rh) ≡ true = eq-eqb _ _ across.one in
      let d : eqb (input_layout s).ch (div_ceil (input_layout s).h (input_layout s).rv) ≡ true = eq-eqb _ _ down.one in
      rw (mul-one (input_layout s).w, mul-one (input_layout s).h, b, d) refl

  passed : first (layout_tests false (input_layout s)) ≡ Ok tt
  unfolding tests_for
  passed = failed_accepted (layout_tests false (input_layout s)) (size_passed, (ratio_passed, (samples_passed, (range_passed, (chroma_passed, tt)))))

  width_is : (input_layout s).w ≤ 128
  unfolding input_layout
  width_is = three.0.width

  -- the Cr image has the sides of the Cb image
  same_sides : (width_of s (cr_at s) ≡ (input_layout s).cw) × (height_of s (cr_at s) ≡ (input_layout s).ch)
  same_sides = (across.other ∙ sym across.one, down.other ∙ sym down.one)

  -- the rows of the three images, by the layout's own numbers
  luma_rows : row_bytes s 0 ≡ (input_layout s).w * (input_layout s).h * (input_layout s).sample_bytes
  unfolding row_bytes input_layout
  luma_rows = refl

  cb_rows_are : row_bytes s (cb_at s) ≡ (input_layout s).cw * (input_layout s).ch * (input_layout s).sample_bytes
  unfolding row_bytes input_layout
  cb_rows_are = rw three.1.0.maxval_same refl

  cr_rows_are : row_bytes s (cr_at s) ≡ (input_layout s).cw * (input_layout s).ch * (input_layout s).sample_bytes
  unfolding row_bytes input_layout
  cr_rows_are = rw (three.1.1.maxval_same, same_sides.0, same_sides.1) refl

  accepted_taken : Taken s (input_reading s)
  unfolding image_end cb_at cr_at bad_siting input_layout
  accepted_taken =
      let a = luma_rows in
      let b = cb_rows_are in
      let c = cr_rows_are in
      record {
        short = short_is;
        passes = passed;
        centred = refl;
        width = width_is;
        y_rows = omega (arith, rows_behind s (cb_at s));
        cb_rows = omega (arith, rows_behind s (cr_at s));
        cr_rows = let e = three.1.1.ends in omega arith;
      }

-- ---- from what was read

-- what the reading gives is what the definitions say of the input
pub record ReadAccepted (s : List ℕ) (r : Reading) : Type 0 where
  pub passed : first (reading_tests s) ≡ Ok tt
  pub reading_is : r ≡ input_reading s

pub read_accepted : {s : List ℕ} {r : Reading} → reading_of s ≡ Ok r → ReadAccepted s r
unfolding reading_of
read_accepted {s} {r} e = go (first (reading_tests s)) refl e
  where
    go : (a : Answer) → first (reading_tests s) ≡ a → pick_reading a (input_reading s) ≡ Ok r → ReadAccepted s r
    go (Ok tt) k e = record { passed = k; reading_is = cc }
    go (Err n) k e = let z : ◌≡◌ {A = ℕ} 0 1 = cc in absurd (omega arith)

-- it has all that `Taken` says
pub taken : {s : List ℕ} {r : Reading} → reading_of s ≡ Ok r → Taken s r
taken {s} e = let a = read_accepted e in rw a.reading_is (accepted_taken s a.passed)

-- the samples of the three images by the layout's own numbers and by where their rows begin: one maxval and the layout's sides serve all three
pub record SamplesAre (s : List ℕ) (r : Reading) : Type 0 where
  pub luma : (j i : ℕ) → image_sample s 0 j i ≡ big_of r.layout.sample_bytes s (r.y + (j * r.layout.w + i) * r.layout.sample_bytes)
  pub blue : (j i : ℕ) → image_sample s (cb_at s) j i ≡ big_of r.layout.sample_bytes s (r.cb + (j * r.layout.cw + i) * r.layout.sample_bytes)
  pub red : (j i : ℕ) → image_sample s (cr_at s) j i ≡ big_of r.layout.sample_bytes s (r.cr + (j * r.layout.cw + i) * r.layout.sample_bytes)

accepted_samples : (s : List ℕ) → first (reading_tests s) ≡ Ok tt → SamplesAre s (input_reading s)
unfolding image_sample input_layout
accepted_samples s a = record {
  luma = λ j i. refl;
  blue = λ j i. rw (three s a).1.0.maxval_same refl;
  red = λ j i. rw ((three s a).1.1.maxval_same, (same_sides s a).0) refl;
}

pub samples_are : {s : List ℕ} {r : Reading} → ReadAccepted s r → SamplesAre s r
samples_are {s} a = rw a.reading_is (accepted_samples s a.passed)
