-- Samples whose bytes were turned: the sample that a plane has, the low byte first, is the one that the input has, the high byte first.
-- Shown once, for samples of any number of bytes (`turned_sample`), by taking the low byte off both. Samples of one byte are turned as they
-- stand (`alone_turned`). The step in between is where in its plane a sample stands: the number of the sample times its bytes (`plane_sample`).
use Rattle.std.proofs.Common.{◌≡◌, refl, sym, ap, ◌∙◌, Bool, true, false, cond, List, ℕ, zero, suc, ◌+◌, ◌-◌, ◌*◌, ◌≤◌, ◌<◌, mul-le-mul_right, arith, ltb, eqb, length, get_or, drop, get_or-drop, ltb-true, ltb-false, subst, Float, Ok}
use mathlib.Core.Path.{fun_ext}
use Rattle.laws.specs.Lists.{put}
use Rattle.laws.proofs.Lists.{length_put, put_before, put_after, put_inside}
use Rattle.laws.specs.Refusals.{Answer, accepted}
use Rattle.laws.proofs.Refusals.{passed_early}
use Rattle.image.specs.declared.layout.Layout.{Layout}
use Rattle.image.specs.declared.chroma.Chroma.{Chroma}
use Rattle.image.specs.declared.chroma.Chroma.TheVariants.{Cb, Cr}
use Rattle.image.specs.Samples.{sample_of, sample_at, plane_of}
use Rattle.image.specs.Picture.{Picture, chroma_plane, inside, picture_of}
use Rattle.image.specs.Inner.Tests.{Sound}
use Rattle.image.proofs.Pictures.{inside_same}
use Rattle.netpbm.specs.Bytes.{big_of}
use Rattle.netpbm.specs.Images.{image_sample}
use Rattle.netpbm.specs.declared.reading.Reading.{Reading}
use Rattle.netpbm.proofs.Acceptance.{SamplesAre, samples_are, read_accepted, taken}
use Rattle.netpbm.specs.Reading.{input_layout, reading_tests}
use Rattle.netpbm.specs.Inner.Reading.{reading_of}
use Rattle.picture.specs.Picture.{Outcome, PictureGiven, chroma_at, input_picture, lent_tests, picture_tests, pick_outcome, ppm_length}
use Rattle.picture.specs.Inner.Planes.{planes_from, picture_from, Reversed, Turned, PlanesTurned, PpmGiven}
use Rattle.picture.proofs.Readings.{layout_sound}

-- ---- a sample of any number of bytes

-- the sample of b bytes that begins at `at`, the low byte first
unfoldable little_of : ℕ → List ℕ → ℕ → ℕ
little_of zero s at = 0
little_of (suc b) s at = get_or s at 0 + 256 * little_of b s (at + 1)

-- bytes that stand in the other order are the same sample
turned_sample : (b : ℕ) (s : List ℕ) (to : ℕ) (input : List ℕ) (at : ℕ) → ((t : ℕ) → t < b → get_or s (to + t) 0 ≡ get_or input (at + (b - 1 - t)) 0) → little_of b s to ≡ big_of b input at
unfolding little_of big_of
turned_sample zero s to input at e = refl
turned_sample (suc b) s to input at e =
    let low : get_or s to 0 ≡ get_or input (at + b) 0 = ap (λ (k : ℕ). get_or s k 0) (omega arith) ∙ e 0 (omega arith) ∙ ap (λ (k : ℕ). get_or input (at + k) 0) (omega arith) in
    let high : little_of b s (to + 1) ≡ big_of b input at = turned_sample b s (to + 1) input at (λ t l. ap (λ (k : ℕ). get_or s k 0) (omega arith) ∙ e (t + 1) (omega arith) ∙ ap (λ (k : ℕ). get_or input (at + k) 0) (omega arith)) in
    omega arith

-- a plane's sample of one or two bytes
little_is : (b : ℕ) (s : List ℕ) (at : ℕ) → 1 ≤ b → b ≤ 2 → sample_of b s at ≡ little_of b s at
unfolding sample_of little_of
little_is zero s at p q = absurd (omega arith)
little_is (suc zero) s at p q = omega arith
little_is (suc (suc zero)) s at p q = omega arith
little_is (suc (suc (suc b))) s at p q = absurd (omega arith)

-- one byte is turned as it stands
pub alone_turned : (b n at : ℕ) (input : List ℕ) → b ≡ 1 → Reversed b n at input input
alone_turned b n at input e = record { byte = λ i t k l. ap (λ (j : ℕ). get_or input (at + (i * b + j)) 0) (omega arith) }

-- ---- n samples, one behind another

module _ (b at : ℕ) (input s : List ℕ) where
  pub turned_none : Turned b 0 at input s s
  turned_none = record { len = refl; turns = record { byte = λ i t k l. absurd (omega arith) }; before = λ k l. refl; behind = λ k l. refl }

-- one more, behind n of them
pub turned_more : {b n at : ℕ} {input s t : List ℕ} → Turned b n at input s t → (to : ℕ) (u : List ℕ) → to ≡ at + n * b → u ≡ put t to b (λ j. get_or input (to + (b - 1 - j)) 0) → to + b ≤ length s → Turned b (n + 1) at input s u
turned_more {b} {n} {at} {input} {s} {t} r to u p q l =
    let f : ℕ → ℕ = λ j. get_or input (to + (b - 1 - j)) 0 in
    let m = r.len in
    record {
      len = ap length q ∙ length_put t to b f ∙ m;
      turns = record { byte = λ i j k h. ap (λ (x : List ℕ). get_or x (at + (i * b + j)) 0) q ∙ go i j k h (ltb i n) (ltb-true i n) (ltb-false i n) };
      before = λ k h. ap (λ (x : List ℕ). get_or x k 0) q ∙ put_before t to b f k 0 (omega arith) ∙ r.before k h;
      behind = λ k h. ap (λ (x : List ℕ). get_or x k 0) q ∙ put_after t to b f k 0 (omega arith) ∙ r.behind k (omega arith);
    }
  where
    go : (i j : ℕ) → i < n + 1 → j < b → (c : Bool) → (c ≡ true → i < n) → (c ≡ false → n ≤ i) → get_or (put t to b (λ j. get_or input (to + (b - 1 - j)) 0)) (at + (i * b + j)) 0 ≡ get_or input (at + (i * b + (b - 1 - j))) 0
    go i j k h true f g =
        let o = mul-le-mul_right b (f refl) in
        put_before t to b (λ j. get_or input (to + (b - 1 - j)) 0) (at + (i * b + j)) 0 (omega arith) ∙ r.turns.byte i j (f refl) h
    go i j k h false f g =
        let e : i ≡ n = let y = g refl in omega arith in
        let d : i * b ≡ n * b = ap (λ (x : ℕ). x * b) e in
        ap (λ (x : ℕ). get_or (put t to b (λ j. get_or input (to + (b - 1 - j)) 0)) x 0) (omega arith)
        ∙ put_inside t to b (λ j. get_or input (to + (b - 1 - j)) 0) j 0 h (omega (arith, r.len))
        ∙ ap (λ (x : ℕ). get_or input x 0) (omega arith)

-- samples in front of a run that was turned keep their bytes
pub reversed_kept : {b n at : ℕ} {input s : List ℕ} → Reversed b n at input s → {c m to : ℕ} {t : List ℕ} → Turned c m to input s t → at + n * b ≤ to → Reversed b n at input t
reversed_kept {b} {n} {at} r u l = record { byte = λ i t k h. let o = mul-le-mul_right b k in u.before (at + (i * b + t)) (omega arith) ∙ r.byte i t k h }

-- ---- a plane

-- a sample of the plane from `at` on
sample_drop : (b at k : ℕ) (s : List ℕ) → sample_of b (drop at s) k ≡ sample_of b s (at + k)
unfolding sample_of
sample_drop b at k s =
    rw (get_or-drop at s k 0, get_or-drop at s (k + 1) 0) (ap (λ (n : ℕ). cond (eqb b 1) (get_or s (at + k) 0) (get_or s (at + k) 0 + 256 * get_or s n 0)) (omega arith))

plane_sample : (b w h at : ℕ) (input s : List ℕ) → 1 ≤ b → b ≤ 2 → Reversed b (w * h) at input s → (y x : ℕ) → x < w → y < h → sample_at b (plane_of (drop at s) (w * b)) y x ≡ big_of b input (at + (y * w + x) * b)
unfolding sample_at
plane_sample b w h at input s p q r y x k l =
    let n = mul-le-mul_right w l in
    let i : y * w + x < w * h = omega arith in
    let e : at + (y * (w * b) + x * b) ≡ at + (y * w + x) * b = omega arith in
    sample_drop b at (y * (w * b) + x * b) s
    ∙ ap (sample_of b s) e
    ∙ little_is b s (at + (y * w + x) * b) p q
    ∙ turned_sample b s (at + (y * w + x) * b) input (at + (y * w + x) * b) (λ t m. ap (λ (j : ℕ). get_or s j 0) (omega arith) ∙ r.byte (y * w + x) t i m ∙ ap (λ (j : ℕ). get_or input j 0) (omega arith))

-- ---- the picture

inside_equal : (w h : ℕ) (f g : ℕ → ℕ → ℕ) → ((x y : ℕ) → x < w → y < h → f y x ≡ g y x) → inside w h f ≡ inside w h g
inside_equal w h f g e = fun_ext (λ y. fun_ext (λ x. inside_same w h f g e x y))

module _ {input s : List ℕ} {r : Reading} (e : reading_of input ≡ Ok r) (t : PlanesTurned r input s) where
  abbrev l : Layout
  l = r.layout

  abbrev b : ℕ
  b = l.sample_bytes

  o : Sound l
  o = layout_sound (taken e)

  are : SamplesAre input r
  are = samples_are (read_accepted e)

  luma_same : inside l.w l.h (sample_at b (planes_from s r).y) ≡ inside l.w l.h (image_sample input 0)
  luma_same = inside_equal l.w l.h _ _ (λ i j k m. plane_sample b l.w l.h r.y input s o.bytes_some o.bytes_most t.y_turned j i k m ∙ sym (are.luma j i))

  chroma_same : (k : Chroma) → inside l.cw l.ch (sample_at b (chroma_plane (planes_from s r) k)) ≡ inside l.cw l.ch (image_sample input (chroma_at input k))
  chroma_same Cb = inside_equal l.cw l.ch _ _ (λ i j k m. plane_sample b l.cw l.ch r.cb input s o.bytes_some o.bytes_most t.cb_turned j i k m ∙ sym (are.blue j i))
  chroma_same Cr = inside_equal l.cw l.ch _ _ (λ i j k m. plane_sample b l.cw l.ch r.cr input s o.bytes_some o.bytes_most t.cr_turned j i k m ∙ sym (are.red j i))

  -- planes that hold the input's samples turned make the input's picture
  pub turned_picture : picture_from s r ≡ input_picture input
  unfolding picture_of input_picture
  turned_picture = rw (luma_same, fun_ext chroma_same, (read_accepted e).reading_is) refl

  -- what is promised of their picture is what `picture` promises of the input
  pub input_given : {scratch : List Float} {out : List ℕ} {n : Outcome} {scratch' : List Float} {out' : List ℕ} → PpmGiven (picture_from s r) scratch out n scratch' out' → PictureGiven input scratch out n scratch' out'
  unfolding picture_tests input_picture
  input_given {scratch} {out} {n} {scratch'} {out'} g =
      let q = subst (λ (p : Picture). PpmGiven p scratch out n scratch' out') turned_picture g in
      let passed = sym (passed_early (reading_tests input) (lent_tests (input_picture input) scratch out) (ap accepted (read_accepted e).passed)) in
      record { answers = q.answers ∙ ap (λ (a : Answer). pick_outcome a (ppm_length (input_layout input))) passed; gives = q.gives; scratches = q.scratches }

-- planes of one-byte samples lie turned in the input itself
pub input_turned : {input : List ℕ} {r : Reading} → r.layout.sample_bytes ≡ 1 → PlanesTurned r input input
input_turned e = record { y_turned = alone_turned _ _ _ _ e; cb_turned = alone_turned _ _ _ _ e; cr_turned = alone_turned _ _ _ _ e }
