-- The three numbers of a header as they are held: the tests on them are the image's tests, an accepted image ends inside the input
-- (`image_inside`), and one that is given is what stands there (`given`).
-- The tests agree one by one (`held_tests_is`). The hard one is the last, for missing rows: sides that are held have another product, and
-- `held_product` of Products says that it compares with what is left of the input as the real one does.
use Rattle.std.proofs.Common.{◌≡◌, refl, sym, ap, ◌∙◌, not, List, ℕ, ◌+◌, ◌-◌, ◌*◌, max, ◌≤◌, ◌<◌, arith, eqb, length, ltb-false, eqb-true, Ok, Err}
use borrow.Author.Tests.{not-false}
use Rattle.laws.specs.declared.refusal.Refusal.{Refusal}
use Rattle.laws.specs.Refusals.{Answer, first}
use Rattle.laws.specs.Numbers.{outside_of}
use Rattle.laws.proofs.Refusals.{accepted_failed}
use Rattle.image.proofs.Layouts.{neither, within}
use Rattle.netpbm.specs.declared.pgm.Field.{Field}
use Rattle.netpbm.specs.declared.pgm.Header.{Header}
use Rattle.netpbm.specs.declared.pgm.Image.{Image}
use Rattle.netpbm.specs.Bytes.{has_blank, past_spaces, past_digits}
use Rattle.netpbm.specs.Images.{field_of, field_end, width_of, width_end, height_of, height_end, maxval_of, maxval_end, rows_at, sample_bytes, row_bytes, image_end, bad_maxval, image_tests}
use Rattle.netpbm.specs.Inner.Held.{held, field_held, header_held, rows_held, held_tests, answered, image_held}
use Rattle.netpbm.proofs.Runs.{blank_inside, spaces_most, digits_most}
use Rattle.netpbm.proofs.Products.{rows_kept, held_product, held_over, held_maxval, held_bytes, bytes_some}

-- a number ends inside the input, or where it began
field_most : (s : List ℕ) (at : ℕ) → field_end s at ≤ max at (length s)
unfolding field_end
field_most s at = omega (arith, digits_most s (past_spaces s at), spaces_most s at)

-- the three numbers, read one behind another
pub header_of : (s : List ℕ) (at : ℕ) {w h m : Field} → w ≡ field_held s (at + 2) → h ≡ field_held s w.end → m ≡ field_held s h.end → record { width = w; height = h; maxval = m } ≡ header_held s at
unfolding header_held field_held width_end height_end
header_of s at {w} {h} {m} a b c =
    let d : w.end ≡ field_end s (at + 2) = ap (λ (f : Field). f.end) a in
    let e : h.end ≡ field_end s w.end = ap (λ (f : Field). f.end) b in
    let g : h.end ≡ field_end s (field_end s (at + 2)) = e ∙ ap (field_end s) d in
    rw (a, b ∙ ap (field_held s) d, c ∙ ap (field_held s) g) refl

module _ (s : List ℕ) (at : ℕ) where
  pub width_most : (header_held s at).width.value ≤ 65536
  unfolding header_held field_held
  width_most = omega arith

  pub height_most : (header_held s at).height.value ≤ 65536
  unfolding header_held field_held
  height_most = omega arith

  -- the header ends two bytes past the input at most
  pub end_most : at ≤ length s → (header_held s at).maxval.end ≤ length s + 2
  unfolding header_held field_held width_end height_end
  end_most l =
      let a = field_most s (at + 2) in
      let b = field_most s (field_end s (at + 2)) in
      let c = field_most s (field_end s (field_end s (at + 2))) in
      omega arith

  -- the rows of the image, as its numbers are held
  rows_held_is : rows_held (header_held s at) ≡ held (width_of s at) * held (height_of s at) * sample_bytes (maxval_of s at)
  unfolding rows_held header_held field_held width_of height_of maxval_of
  rows_held_is = rw (held_bytes (field_of s (height_end s at))) refl

  -- tests on the numbers as they are held are the image's own
  pub held_tests_is : length s ≤ 49152 → held_tests s at (header_held s at) (held (maxval_of s 0)) ≡ image_tests s at
  unfolding held_tests image_tests header_held field_held bad_maxval row_bytes rows_at width_of height_of maxval_of maxval_end
  held_tests_is l =
      let w = field_of s (at + 2) in
      let h = field_of s (width_end s at) in
      let m = field_of s (height_end s at) in
      rw (rows_held_is, held_over 128 w (omega arith), held_maxval (field_of s (height_end s 0)) m, held_product (length s - (field_end s (height_end s at) + 1)) w h (sample_bytes m) (omega arith) (bytes_some m)) refl

-- ---- a header that was read

-- what its numbers are at most, and where it ends
pub record Limits (h : Header) : Type 0 where
  pub width : h.width.value ≤ 65536
  pub height : h.height.value ≤ 65536
  pub ends : h.maxval.end ≤ 49154

pub limits : (s : List ℕ) (at : ℕ) (h : Header) → length s ≤ 49152 → at ≤ length s → h ≡ header_held s at → Limits h
limits s at h l m e = rw e (record { width = width_most s at; height = height_most s at; ends = omega (arith, end_most s at m) })

pub maxval_held : (s : List ℕ) (at : ℕ) (h : Header) → h ≡ header_held s at → h.maxval.value ≡ held (maxval_of s at)
unfolding header_held field_held maxval_of
maxval_held s at h e = rw e refl

-- ---- the image of that header

module _ (s : List ℕ) (at : ℕ) (h : Header) (wanted : ℕ) (l : length s ≤ 49152) (e : h ≡ header_held s at) (f : wanted ≡ held (maxval_of s 0)) where
  -- the tests on it answer as those on what stands there:
  asked : (a : Answer) → a ≡ first (held_tests s at h wanted) → first (image_tests s at) ≡ a
  asked a p = rw (p, e, f, held_tests_is s at l) refl

  -- it is turned down for the same reason,
  pub image_refused : (why : Refusal) → Err why ≡ first (held_tests s at h wanted) → Err why ≡ image_held s at
  unfolding image_held
  image_refused why p = rw (asked (Err why) p) refl

  -- or is the one that stands there
  pub image_of : (rows : ℕ) → Ok tt ≡ first (held_tests s at h wanted) → rows ≡ rows_held h
      → Ok (record { w = h.width.value; h = h.height.value; maxval = h.maxval.value; rows = h.maxval.end + 1; end = h.maxval.end + 1 + rows }) ≡ image_held s at
  unfolding image_held header_held field_held rows_at width_of height_of maxval_of maxval_end
  image_of rows p q = rw (asked (Ok tt) p, q, e) refl

-- the rows of an image stand behind its magic
pub rows_behind : (s : List ℕ) (at : ℕ) → at ≤ rows_at s at
unfolding rows_at width_end height_end maxval_end field_end past_digits past_spaces
rows_behind s at = omega arith

-- ---- an image that is accepted

pub record ImageInside (s : List ℕ) (at : ℕ) : Type 0 where
  pub width : width_of s at ≤ 128
  pub maxval_some : 1 ≤ maxval_of s at
  pub maxval_most : maxval_of s at ≤ 65535
  pub maxval_same : maxval_of s 0 ≡ maxval_of s at
  pub ends : image_end s at ≤ length s
  pub held_end : rows_at s at + rows_held (header_held s at) ≡ image_end s at

pub image_inside : (s : List ℕ) (at : ℕ) → length s ≤ 49152 → first (image_tests s at) ≡ Ok tt → ImageInside s at
unfolding image_tests image_end rows_at row_bytes bad_maxval
image_inside s at l e =
    let f = accepted_failed (image_tests s at) e in
    let w : width_of s at ≤ 128 = ltb-false 128 (width_of s at) f.1.1.0 in
    let m = neither (outside_of 1 65535 (maxval_of s at)) (not (eqb (maxval_of s 0) (maxval_of s at))) f.1.1.1.1.1.0 in
    let n = within 1 65535 (maxval_of s at) m.0 in
    let b : maxval_end s at < length s = blank_inside s (maxval_end s at) (not-false (has_blank s (maxval_end s at)) f.1.1.1.1.1.1.0) in
    let k = sample_bytes (maxval_of s at) in
    let p : width_of s at * height_of s at * k ≤ length s - (maxval_end s at + 1) = ltb-false _ _ f.1.1.1.1.1.1.1.0 in
    record {
      width = w;
      maxval_some = n.0;
      maxval_most = n.1;
      maxval_same = eqb-true _ _ (not-false _ m.1);
      ends = omega arith;
      held_end = ap (λ (x : ℕ). maxval_end s at + 1 + x) (rows_held_is s at ∙ rows_kept (width_of s at) (height_of s at) k (bytes_some (maxval_of s at)) (omega arith));
    }

-- ---- an image that is given

-- what an image that is given, or its reason, says of the answer
answered_ok : (a : Answer) (i j : Image) → answered a i ≡ Ok j → (a ≡ Ok tt) × (i ≡ j)
answered_ok (Ok tt) i j e = (refl, cc)
answered_ok (Err why) i j e = cc

answered_err : (a : Answer) (i : Image) (why : Refusal) → answered a i ≡ Err why → a ≡ Err why
answered_err (Ok tt) i why e = cc
answered_err (Err n) i why e = cc

-- it is what stands there; its height alone may be held as another, where it has no columns
pub record Given (s : List ℕ) (at : ℕ) (i : Image) : Type 0 where
  pub passed : first (image_tests s at) ≡ Ok tt
  pub w : i.w ≡ width_of s at
  pub h : i.h ≡ held (height_of s at)
  pub maxval : i.maxval ≡ maxval_of s 0
  pub maxval_most : i.maxval ≤ 65535
  pub rows : i.rows ≡ rows_at s at
  pub end : i.end ≡ image_end s at
  pub ends : i.end ≤ length s

pub given : (s : List ℕ) (at : ℕ) (i : Image) → length s ≤ 49152 → Ok i ≡ image_held s at → Given s at i
unfolding image_held
given s at i l e =
    let q = answered_ok _ _ _ (sym e) in
    let n = image_inside s at l q.0 in
    let w : held (width_of s at) ≡ i.w = ap (λ (j : Image). j.w) q.1 in
    let m : held (maxval_of s at) ≡ i.maxval = ap (λ (j : Image). j.maxval) q.1 in
    let d : i.end ≡ image_end s at = sym (ap (λ (j : Image). j.end) q.1) ∙ n.held_end in
    record {
      passed = q.0;
      w = omega arith;
      h = sym (ap (λ (j : Image). j.h) q.1);
      maxval = omega arith;
      maxval_most = omega arith;
      rows = sym (ap (λ (j : Image). j.rows) q.1);
      end = d;
      ends = omega arith;
    }

-- one that is turned down is so for the first of its tests
pub turned_down : (s : List ℕ) (at : ℕ) (why : Refusal) → Err why ≡ image_held s at → first (image_tests s at) ≡ Err why
unfolding image_held
turned_down s at why e = answered_err _ _ _ (sym e)
