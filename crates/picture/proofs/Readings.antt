-- What was read, against the definitions over the input: why fill takes planes as it gives them, and the outcome of each way out of `written`.
-- The hard step is `plane_holds`: rows one right behind the other inside a list make a plane that isn't too short, since h rows are (h - 1)
-- strides and one row. Past it, and where no sample exceeds maxval, `fill` has nothing to refuse (`fill_takes`).
use Rattle.std.proofs.Common.{◌≡◌, refl, sym, ap, ◌∙◌, Bool, true, false, List, [], ◌∷◌, ℕ, ◌+◌, ◌-◌, ◌*◌, ◌≤◌, ◌<◌, mul-le-mul, mul-le-mul_left, arith, ltb, length, drop, take, length-drop, take_all, Float, le-ltb, lt-ltb, Ok, Err}
use Rattle.laws.specs.Refusals.{Answer, first, accepted}
use Rattle.laws.proofs.Refusals.{accepted_failed, failed_accepted, passed_early, refused_early}
use Rattle.image.specs.declared.layout.Layout.{Layout}
use Rattle.image.specs.Picture.{short_plane, bad_planes, picture_of}
use Rattle.image.specs.Tests.{bad_siting, bad_plane, layout_tests}
use Rattle.image.specs.Inner.Tests.{Sound}
use Rattle.image.proofs.Layouts.{sound}
use Rattle.image.specs.Limits.{above_any, exceeds}
use Rattle.image.proofs.Any.{planes_exceed}
use Rattle.image.specs.Scratch.{scratch_need}
use Rattle.kernels.specs.declared.kernel.YcbcrKernel.TheVariants.{Exact}
use Rattle.fill.specs.declared.options.ChromaUpsampling.TheVariants.{LumaGuided}
use Rattle.fill.specs.Tests.{fill_tests}
use Rattle.netpbm.specs.declared.reading.Reading.{Reading}
use Rattle.netpbm.specs.Reading.{input_layout, reading_tests}
use Rattle.netpbm.specs.Inner.Reading.{input_reading, pick_reading, reading_of}
use Rattle.netpbm.specs.Inner.Taken.{Taken}
use Rattle.laws.specs.declared.refusal.Refusal.{Refusal}
use Rattle.picture.specs.Picture.{ppm_length, ppm_over, scratch_after, lent_tests, picture_tests, pick_outcome}
use Rattle.picture.specs.Inner.Planes.{planes_from, picture_from, PpmGiven}
use Rattle.image.specs.Samples.{plane_of}
use Rattle.laws.specs.declared.refusal.Refusal.TheVariants.{BadPlane, BadPixelSize, ShortScratch, ShortOutput, NotCentred, AboveMaxval}

-- a number that the reading gives is that of the first of its tests that applies
pub turned : (s : List ℕ) (why : Refusal) → reading_of s ≡ Err why → first (reading_tests s) ≡ Err why
unfolding reading_of
turned s why e = go (first (reading_tests s)) e
  where
    go : (a : Answer) → pick_reading a (input_reading s) ≡ Err why → a ≡ Err why
    go (Ok tt) e = let z : ◌≡◌ {A = ℕ} 0 1 = cc in absurd (omega arith)
    go (Err other) e = let z : other ≡ why = cc in ap Err z

-- a part of a list from `at` on that is long enough goes to the list's end
pub to_end : (s : List ℕ) (at : ℕ) → take (length s - at) (drop at s) ≡ drop at s
to_end s at = take_all (length s - at) (drop at s) (let n = length-drop at s in omega arith)

-- a list that is longer holds the same planes
pub taken_longer : {s : List ℕ} {r : Reading} → Taken s r → (t : List ℕ) → length s ≤ length t → length t ≤ 49152 → Taken t r
taken_longer a t k m = record { short = m; passes = a.passes; centred = a.centred; width = a.width; y_rows = a.y_rows; cb_rows = a.cb_rows; cr_rows = let c = a.cr_rows in omega arith }

-- ---- fill takes it

module _ {s : List ℕ} {r : Reading} (t : Taken s r) where
  abbrev l : Layout
  l = r.layout

  pub layout_sound : Sound l
  layout_sound = sound false l (accepted_failed (layout_tests false l) t.passes)

  -- the sides fit a header's line
  pub sides_most : (r.layout.w ≤ 128) × (r.layout.h ≤ 8192)
  sides_most = (t.width, layout_sound.h_most)

  -- the planes have no more samples than bytes, so that no product of their sides wraps
  pub pixels_most : l.w * l.h ≤ 49152
  pixels_most =
      let a = t.y_rows in
      let b = t.cb_rows in
      let c = t.cr_rows in
      let d = t.short in
      let e = mul-le-mul_left (l.w * l.h) layout_sound.bytes_some in
      omega arith

  pub cells_most : l.cw * l.ch ≤ 49152
  cells_most =
      let c = t.cr_rows in
      let d = t.short in
      let e = mul-le-mul_left (l.cw * l.ch) layout_sound.bytes_some in
      omega arith

  pub strides_most : (l.w * l.sample_bytes ≤ 256) × (l.cw * l.sample_bytes ≤ 256)
  strides_most =
      let o = layout_sound in
      let c : l.cw ≤ 128 = omega (arith, o.cw_most, t.width) in
      (mul-le-mul t.width o.bytes_most, mul-le-mul c o.bytes_most)

  plane_holds : (at w h : ℕ) → 0 < h → at + w * h * l.sample_bytes ≤ length s → short_plane l w h (plane_of (drop at s) (w * l.sample_bytes)) ≡ false
  unfolding short_plane bad_plane
  plane_holds at w h p g =
      let n = length-drop at s in
      let row = w * l.sample_bytes in
      let k : (h - 1) * row + row ≤ length s - at = long h p g in
      rw (n, le-ltb row row (omega arith), le-ltb (length s - at) ((h - 1) * row + row) k) refl
    where
      long : (h : ℕ) → 0 < h → at + w * h * l.sample_bytes ≤ length s → (h - 1) * (w * l.sample_bytes) + w * l.sample_bytes ≤ length s - at
      long h p g =
          let e : h ≡ (h - 1) + 1 = omega arith in
          let f : w * h * l.sample_bytes ≡ (h - 1) * (w * l.sample_bytes) + w * l.sample_bytes = ap (λ (k : ℕ). w * k * l.sample_bytes) e ∙ omega arith in
          omega arith

  pub planes_hold : bad_planes l (planes_from s r) ≡ false
  unfolding bad_planes
  planes_hold =
      let o = layout_sound in
      let a = t.y_rows in
      let b = t.cb_rows in
      let c = t.cr_rows in
      rw (plane_holds r.y l.w l.h o.h_some (omega arith), plane_holds r.cb l.cw l.ch o.ch_some (omega arith), plane_holds r.cr l.cw l.ch o.ch_some c) refl

  pub fill_takes : exceeds (picture_from s r) ≡ false → (scratch : List Float) (out : List ℕ) → scratch_need l ≤ length scratch → l.w * l.h * 3 ≤ length out → first (fill_tests (record { layout = l; planes = planes_from s r; upsampling = LumaGuided; kernel = Exact; size = 3; scratch = scratch; out = out })) ≡ Ok tt
  unfolding fill_tests
  fill_takes b scratch out g h =
      passed_early (layout_tests false l) _ (ap accepted t.passes)
      ∙ failed_accepted ((bad_siting l, NotCentred) ∷ (bad_planes l (planes_from s r), BadPlane) ∷ (above_any l (planes_from s r), AboveMaxval) ∷ (false, BadPixelSize) ∷ (ltb (length scratch) (scratch_need l), ShortScratch) ∷ (ltb (length out) (l.w * l.h * 3), ShortOutput) ∷ []) (t.centred, (planes_hold, (planes_exceed l (planes_from s r) ∙ b, (refl, (le-ltb _ _ g, (le-ltb _ _ h, tt))))))

  -- ---- the outcome, by the tests in their order, b being the first one's answer, c the second's, and n the length of the PPM

  module _ {scratch : List Float} {out : List ℕ} {b : Bool} (e : b ≡ exceeds (picture_from s r)) where
    -- It is 17 where a sample exceeds maxval, and nothing is written.
    pub above_given : b ≡ true → PpmGiven (picture_from s r) scratch out (Err AboveMaxval) scratch out
    unfolding lent_tests picture_of first
    above_given f = record { answers = rw (sym e ∙ f) refl; gives = refl; scratches = refl }

    module _ (f : b ≡ false) {c : Bool} (g : c ≡ ltb (length scratch) (scratch_need l)) where
      -- It is 9 where scratch is too short, and nothing is written.
      pub scratch_given : c ≡ true → PpmGiven (picture_from s r) scratch out (Err ShortScratch) scratch out
      unfolding lent_tests picture_of first
      scratch_given h = record { answers = rw (sym e ∙ f, sym g ∙ h) refl; gives = refl; scratches = refl }

      module _ (h : c ≡ false) {n : ℕ} (k : n ≡ ppm_length l) where
        -- It is 10 where out is too short, and nothing is written.
        pub out_given : length out < n → PpmGiven (picture_from s r) scratch out (Err ShortOutput) scratch out
        unfolding lent_tests picture_of first
        out_given m = record { answers = rw (sym e ∙ f, sym g ∙ h, lt-ltb (length out) (ppm_length l) (rw (sym k) m)) refl; gives = refl; scratches = refl }

        -- Otherwise the picture is written.
        pub written_given : {scratch' : List Float} {out' : List ℕ} → n ≤ length out → out' ≡ ppm_over (picture_from s r) out → scratch' ≡ scratch_after (picture_from s r) scratch → PpmGiven (picture_from s r) scratch out (Ok n) scratch' out'
        unfolding lent_tests picture_of first
        written_given m o q = record { answers = rw (sym e ∙ f, sym g ∙ h, le-ltb (length out) (ppm_length l) (rw (sym k) m), k) refl; gives = o; scratches = q }

-- where the reading gives a number, that is the outcome's
pub read_refused : (s : List ℕ) (scratch : List Float) (out : List ℕ) (why : Refusal) → reading_of s ≡ Err why → Err why ≡ pick_outcome (first (picture_tests s scratch out)) (ppm_length (input_layout s))
unfolding picture_tests
read_refused s scratch out n e =
    let k = turned s n e in
    ap (λ (a : Answer). pick_outcome a (ppm_length (input_layout s))) (sym (refused_early (reading_tests s) _ (ap accepted k) ∙ k))
