-- Three images one behind another: the reason that turns one down is the whole's, and what is held of images that are given is what the
-- definitions say. `in_turn` carries the first. The hard step of the second is that ratios as they are held are the real ones only where 2
-- doesn't apply (`sides`), so the tests can't be compared one by one: `tests_same` looks at 5 only past 2.
use Rattle.std.proofs.Common.{◌≡◌, refl, ap, ◌∙◌, Bool, true, false, List, [], ◌∷◌, ℕ, ◌≤◌, ◌<◌, arith, ltb, eqb, length, le-ltb, lt-ltb, Ok, Err}
use borrow.Author.Tests.{eqb-false}
use Rattle.laws.specs.Refusals.{Answer, first}
use Rattle.laws.specs.Inner.Refusals.{further}
use Rattle.laws.proofs.Refusals.{accepted_failed, refused_here, passed_over, first_further}
use Rattle.image.specs.declared.layout.Layout.{Layout}
use Rattle.image.specs.Tests.{bad_size}
use Rattle.image.proofs.Layouts.{neither, size_passed}
use Rattle.netpbm.specs.declared.pgm.Image.{Image}
use Rattle.netpbm.specs.declared.reading.Reading.{Reading}
use Rattle.laws.specs.declared.refusal.Refusal.{Refusal}
use Rattle.netpbm.specs.Images.{width_of, height_of, image_end, image_tests}
use Rattle.netpbm.specs.Reading.{cb_at, cr_at, ratio_for, input_layout, no_ratio, images_tests, whole_tests, reading_tests}
use Rattle.netpbm.specs.Inner.Reading.{pick_reading, reading_of}
use Rattle.netpbm.specs.Inner.HeldInput.{layout_held}
use Rattle.netpbm.specs.Inner.Held.{held, image_held}
use Rattle.netpbm.proofs.Runs.{differ}
use Rattle.netpbm.proofs.Products.{held_over, held_under}
use Rattle.netpbm.proofs.Ratios.{ratio_held, ratio_fits}
use Rattle.netpbm.proofs.Fields.{Given, given, turned_down}
use Rattle.laws.specs.declared.refusal.Refusal.TheVariants.{BadSize, BadChroma, BadHeader, TooLarge}

-- ---- an input that is turned down

-- an input that is not too long is answered by the images' tests, one image after another, and then by those behind them
in_turn : (s : List ℕ) → length s ≤ 49152
    → first (reading_tests s) ≡ further (further (further (first (image_tests s 0)) (image_tests s (cb_at s))) (image_tests s (cr_at s))) (whole_tests s)
unfolding reading_tests images_tests
in_turn s l = passed_over _ _ _ (le-ltb 49152 (length s) l) ∙ simp first_further

-- the first reason is the reading's
refused : (s : List ℕ) (why : Refusal) → first (reading_tests s) ≡ Err why → Err why ≡ reading_of s
unfolding reading_of
refused s why e = rw e refl

-- an input that is too long is read no further
pub read_long : (s : List ℕ) → 49152 < length s → Err TooLarge ≡ reading_of s
unfolding reading_tests
read_long s l = refused s TooLarge (refused_here _ _ _ (lt-ltb 49152 (length s) l))

-- ---- images that are given, each behind the one before

-- one that begins where another ends stands where the definitions say
cb_given : (s : List ℕ) (y cb : Image) → length s ≤ 49152 → Ok y ≡ image_held s 0 → Ok cb ≡ image_held s y.end → Given s (cb_at s) cb
unfolding cb_at
cb_given s y cb l p q = given s (image_end s 0) cb l (q ∙ ap (image_held s) (given s 0 y l p).end)

cr_given : (s : List ℕ) (y cb cr : Image) → length s ≤ 49152
    → Ok y ≡ image_held s 0 → Ok cb ≡ image_held s y.end → Ok cr ≡ image_held s cb.end → Given s (cr_at s) cr
unfolding cr_at
cr_given s y cb cr l p q r = given s (image_end s (cb_at s)) cr l (r ∙ ap (image_held s) (cb_given s y cb l p q).end)

-- the first that is turned down gives the reason
pub y_refused : (s : List ℕ) (why : Refusal) → length s ≤ 49152 → Err why ≡ image_held s 0 → Err why ≡ reading_of s
y_refused s why l e = refused s why (in_turn s l ∙ rw (turned_down s 0 why e) refl)

pub cb_refused : (s : List ℕ) (why : Refusal) (y : Image) → length s ≤ 49152 → Ok y ≡ image_held s 0 → Err why ≡ image_held s y.end → Err why ≡ reading_of s
unfolding cb_at
cb_refused s why y l p e =
    let g = given s 0 y l p in
    refused s why (in_turn s l ∙ rw (g.passed, turned_down s (image_end s 0) why (e ∙ ap (image_held s) g.end)) refl)

pub cr_refused : (s : List ℕ) (why : Refusal) (y cb : Image) → length s ≤ 49152
    → Ok y ≡ image_held s 0 → Ok cb ≡ image_held s y.end → Err why ≡ image_held s cb.end → Err why ≡ reading_of s
unfolding cr_at
cr_refused s why y cb l p q e =
    let g = cb_given s y cb l p q in
    refused s why (in_turn s l ∙ rw ((given s 0 y l p).passed, g.passed, turned_down s (image_end s (cb_at s)) why (e ∙ ap (image_held s) g.end)) refl)

-- ---- the tests behind the images

-- a test that is passed over where another applies doesn't matter there
tests_same : (x b b' n n' : Bool) → b ≡ b' → (b' ≡ false → n ≡ n') → first ((x, BadHeader) ∷ (b, BadSize) ∷ (n, BadChroma) ∷ []) ≡ first ((x, BadHeader) ∷ (b', BadSize) ∷ (n', BadChroma) ∷ [])
unfolding first
tests_same x true true n n' e f = refl
tests_same x true false n n' e f = differ true refl e
tests_same x false true n n' e f = differ false e refl
tests_same x false false n n' e f = rw (f refl) refl

module _ {s : List ℕ} {y cb cr : Image} (p : Given s 0 y) (q : Given s (cb_at s) cb) (r : Given s (cr_at s) cr) where
  -- sides as they are held are outside 1 to 8,192 exactly if the real ones are: the test for 2 is the same
  size_same : bad_size (layout_held y cb cr) ≡ bad_size (input_layout s)
  unfolding bad_size layout_held input_layout
  size_same =
      let c : ltb (held (height_of s 0)) 1 ≡ ltb (height_of s 0) 1 = held_under 1 (height_of s 0) (omega arith) in
      let d : ltb 8192 (held (height_of s 0)) ≡ ltb 8192 (height_of s 0) = held_over 8192 (height_of s 0) (omega arith) in
      rw (p.w, p.h, c, d) refl

  sides : bad_size (input_layout s) ≡ false → height_of s 0 ≤ 8192
  unfolding input_layout
  sides e = (size_passed (input_layout s) e).1.1

  -- where 2 doesn't apply, heights as they are held have the ratio of the real ones
  ratio_h : bad_size (input_layout s) ≡ false → ratio_for y.h cb.h cr.h ≡ ratio_for (height_of s 0) (height_of s (cb_at s)) (height_of s (cr_at s))
  ratio_h e = rw (p.h, q.h, r.h) (ratio_held (height_of s 0) (height_of s (cb_at s)) (height_of s (cr_at s)) (sides e))

  none_same : bad_size (input_layout s) ≡ false → no_ratio (layout_held y cb cr) ≡ no_ratio (input_layout s)
  unfolding no_ratio layout_held input_layout
  none_same e = rw (ratio_h e, p.w, q.w, r.w) refl

  -- the tests behind the images give the same answer over what is held
  sizes_first : (x : Bool) → x ≡ ltb cr.end (length s)
      → first ((x, BadHeader) ∷ (bad_size (layout_held y cb cr), BadSize) ∷ (no_ratio (layout_held y cb cr), BadChroma) ∷ []) ≡ first (whole_tests s)
  unfolding whole_tests
  sizes_first x e = rw (e, ap (λ (n : ℕ). ltb n (length s)) r.end) (tests_same (ltb (image_end s (cr_at s)) (length s)) _ _ _ _ size_same none_same)

  -- a layout that passes these tests, of images that are given, is held as it is
  layout_same : first (whole_tests s) ≡ Ok tt → layout_held y cb cr ≡ input_layout s
  unfolding whole_tests layout_held input_layout no_ratio
  layout_same e =
      let f = accepted_failed (whole_tests s) e in
      let b = f.1.0 in
      let rh = ratio_for (width_of s 0) (width_of s (cb_at s)) (width_of s (cr_at s)) in
      let rv = ratio_for (height_of s 0) (height_of s (cb_at s)) (height_of s (cr_at s)) in
      let n = neither (eqb rh 0) (eqb rv 0) f.1.1.0 in
      let v = (ratio_fits (height_of s 0) (height_of s (cb_at s)) (height_of s (cr_at s)) (eqb-false rv 0 n.1)).less in
      let k = sides b in
      let yh : y.h ≡ height_of s 0 = p.h ∙ omega arith in
      let ch : cb.h ≡ height_of s (cb_at s) = q.h ∙ omega arith in
      rw (ratio_h b, p.w, yh, q.w, r.w, ch, p.maxval) refl

-- ---- the whole

pick_same : (a : Answer) (r q : Reading) → (a ≡ Ok tt → r ≡ q) → pick_reading a r ≡ pick_reading a q
pick_same (Ok tt) r q f = ap Ok (f refl)
pick_same (Err n) r q f = refl

-- what is answered from three images that are given is the reading
pub reading_is : (s : List ℕ) (y cb cr : Image) (k : Layout) (b n : Bool) (a : Answer) → length s ≤ 49152
    → Ok y ≡ image_held s 0 → Ok cb ≡ image_held s y.end → Ok cr ≡ image_held s cb.end → k ≡ layout_held y cb cr → b ≡ bad_size k → n ≡ no_ratio k
    → a ≡ first ((ltb cr.end (length s), BadHeader) ∷ (b, BadSize) ∷ (n, BadChroma) ∷ []) → pick_reading a (record { layout = k; y = y.rows; cb = cb.rows; cr = cr.rows }) ≡ reading_of s
unfolding reading_of
reading_is s y cb cr k b n a l c d e f g h i =
    let p = given s 0 y l c in
    let q = cb_given s y cb l c d in
    let r = cr_given s y cb cr l c d e in
    let later : first (reading_tests s) ≡ first (whole_tests s) = in_turn s l ∙ rw (p.passed, q.passed, r.passed) refl in
    rw (later, i, g, h, f, sizes_first p q r _ refl) (pick_same (first (whole_tests s)) _ _ (λ t. rw (layout_same p q r t, p.rows, q.rows, r.rows) refl))
