-- A comment in the place of a whitespace byte of a header leaves answer, layout and samples as they were (`comment_alike`).
-- Image by image: one that ends in front of the place is read from the same bytes (`image_front`), one that holds it has the same numbers
-- and is followed by the same bytes (`image_here`), and one behind it is read from the same bytes at another place (`image_behind_is`). The
-- step that is no computation is the first one's test for missing rows: what is left of the two inputs differs, and is enough in both.
use Rattle.std.proofs.Common.{◌≡◌, refl, sym, ap, subst, ◌∙◌, inl, inr, Bool, true, false, List, [], ◌∷◌, ◌++◌, append_assoc, ℕ, suc, ◌+◌, ◌-◌, ◌≤◌, ◌<◌, arith, ltb, length, get_or, drop, length-append, length-drop, get_or-drop, drop-drop, ltb-true, ltb-false, lt-ltb, le-ltb}
use Rattle.laws.specs.Refusals.{first}
use Rattle.netpbm.specs.Ascii.{is_blank}
use Rattle.netpbm.specs.Bytes.{has_blank}
use Rattle.netpbm.specs.Images.{has_magic, has_number, field_of, field_end, width_of, width_end, height_of, height_end, maxval_of, maxval_end, rows_at, row_bytes, image_end, bad_maxval, image_tests}
use Rattle.netpbm.specs.Reading.{cb_at, cr_at, input_layout, images_tests, whole_tests, reading_tests}
use Rattle.netpbm.specs.Comments.{all_space, BeforeNumber, InHeader, Commented, SameRows, ReadAlike}
use Rattle.netpbm.proofs.Comments.{blank_all, comment_all}
use Rattle.netpbm.proofs.Alike.{Alike, Replaced, end_least, behind_field, replaced_in}

-- a byte of both inputs, by the bytes that are left
byte_behind : (s : List ℕ) (p : ℕ) (t : List ℕ) (q : ℕ) → drop p s ≡ drop q t → (i : ℕ) → get_or s (p + i) 0 ≡ get_or t (q + i) 0
byte_behind s p t q e i = sym (get_or-drop p s i 0) ∙ ap (λ (w : List ℕ). get_or w i 0) e ∙ get_or-drop q t i 0

drop_behind : (s : List ℕ) (p : ℕ) (t : List ℕ) (q : ℕ) → drop p s ≡ drop q t → (i : ℕ) → drop (p + i) s ≡ drop (q + i) t
drop_behind s p t q e i = sym (drop-drop i p s) ∙ ap (drop i) e ∙ drop-drop i q t

left_behind : (s : List ℕ) (p : ℕ) (t : List ℕ) (q : ℕ) → drop p s ≡ drop q t → length s - p ≡ length t - q
left_behind s p t q e = sym (length-drop p s) ∙ ap length e ∙ length-drop q t

-- ---- one image

-- the image of s at `at` is turned down as that of t at `to` is, where the first images have the same maxval, and has the same sides, maxval
-- and rows
record Image (s : List ℕ) (at : ℕ) (t : List ℕ) (to : ℕ) : Type 0 where
  tests : maxval_of s 0 ≡ maxval_of t 0 → image_tests s at ≡ image_tests t to
  width : width_of s at ≡ width_of t to
  height : height_of s at ≡ height_of t to
  maxval : maxval_of s at ≡ maxval_of t to
  rows : SameRows s at t to

-- the magic and the three numbers are the same
record Header (s : List ℕ) (at : ℕ) (t : List ℕ) (to : ℕ) : Type 0 where
  magic : has_magic s at ≡ has_magic t to
  width : Alike s (at + 2) t (to + 2)
  height : Alike s (width_end s at) t (width_end t to)
  maxval : Alike s (height_end s at) t (height_end t to)

module _ {s : List ℕ} {at : ℕ} {t : List ℕ} {to : ℕ} (h : Header s at t to) where
  width_same : width_of s at ≡ width_of t to
  unfolding width_of
  width_same = h.width.value

  height_same : height_of s at ≡ height_of t to
  unfolding height_of
  height_same = h.height.value

  maxval_same : maxval_of s at ≡ maxval_of t to
  unfolding maxval_of
  maxval_same = h.maxval.value

  row_bytes_same : row_bytes s at ≡ row_bytes t to
  unfolding row_bytes
  row_bytes_same = rw (width_same, height_same, maxval_same) refl

  -- with what stands behind the header
  tests_same : has_blank s (maxval_end s at) ≡ has_blank t (maxval_end t to) → ltb (length s - rows_at s at) (row_bytes s at) ≡ ltb (length t - rows_at t to) (row_bytes t to) → maxval_of s 0 ≡ maxval_of t 0 → image_tests s at ≡ image_tests t to
  unfolding image_tests bad_maxval
  tests_same b r m = rw (h.magic, h.width.number, h.height.number, h.maxval.number, r, b, width_same, maxval_same, m) refl

  -- the same bytes stand behind the header
  image_of : drop (maxval_end s at) s ≡ drop (maxval_end t to) t → Image s at t to × (drop (image_end s at) s ≡ drop (image_end t to) t)
  unfolding image_end rows_at has_blank SameRows
  image_of e =
      let b : get_or s (maxval_end s at) 0 ≡ get_or t (maxval_end t to) 0 = ap (λ (k : ℕ). get_or s k 0) (omega arith) ∙ byte_behind s (maxval_end s at) t (maxval_end t to) e 0 ∙ ap (λ (k : ℕ). get_or t k 0) (omega arith) in
      let d : drop (maxval_end s at + 1) s ≡ drop (maxval_end t to + 1) t = drop_behind s (maxval_end s at) t (maxval_end t to) e 1 in
      let n = left_behind s (maxval_end s at + 1) t (maxval_end t to + 1) d in
      let a = row_bytes_same in (
        record {
          tests = tests_same (ap is_blank b) (rw (n, a) refl);
          width = width_same;
          height = height_same;
          maxval = maxval_same;
          rows = λ i l. byte_behind s (maxval_end s at + 1) t (maxval_end t to + 1) d i;
        },
        ap (λ (k : ℕ). drop (maxval_end s at + 1 + k) s) a ∙ drop_behind s (maxval_end s at + 1) t (maxval_end t to + 1) d (row_bytes t to),
      )

-- an image behind the place
image_behind_is : (s : List ℕ) (at : ℕ) (t : List ℕ) (to : ℕ) → drop at s ≡ drop to t → Image s at t to × (drop (image_end s at) s ≡ drop (image_end t to) t)
unfolding has_magic width_end height_end maxval_end
image_behind_is s at t to e =
    let a : get_or s at 0 ≡ get_or t to 0 = ap (λ (k : ℕ). get_or s k 0) (omega arith) ∙ byte_behind s at t to e 0 ∙ ap (λ (k : ℕ). get_or t k 0) (omega arith) in
    let b = byte_behind s at t to e 1 in
    let w = behind_field s (at + 2) t (to + 2) (drop_behind s at t to e 2) in
    let h = behind_field s (width_end s at) t (width_end t to) w.1 in
    let m = behind_field s (height_end s at) t (height_end t to) h.1 in
    image_of (record { magic = rw (a, b) refl; width = w.0; height = h.0; maxval = m.0 }) m.1

-- the same number at a place that is equal
moved : {s : List ℕ} {p : ℕ} {t : List ℕ} {q r : ℕ} → Alike s p t q → q ≡ r → Alike s p t r
moved {s} {p} {t} a e = record { number = a.number ∙ ap (has_number t) e; value = a.value ∙ ap (field_of t) e }

-- an image ends behind its magic
end_behind : (s : List ℕ) (at : ℕ) → at ≤ image_end s at
unfolding image_end rows_at width_end height_end maxval_end
end_behind s at = omega (arith, end_least s (at + 2), end_least s (width_end s at), end_least s (height_end s at))

module _ {s t front : List ℕ} (k : Replaced s t front) where
  magic_front : (at : ℕ) → at + 2 ≤ length front → has_magic s at ≡ has_magic t at
  unfolding has_magic
  magic_front at l = rw (k.same at (omega arith), k.same (at + 1) (omega arith)) refl

  -- ---- numbers that end in front of the place

  width_front : (at : ℕ) → width_end s at ≤ length front → Alike s (at + 2) t (at + 2) × (width_end s at ≡ width_end t at)
  unfolding width_end
  width_front at l = k.front_field (at + 2) (omega (arith, end_least s (at + 2))) l

  height_front : (at : ℕ) → height_end s at ≤ length front → Alike s (width_end s at) t (width_end t at) × (height_end s at ≡ height_end t at)
  unfolding height_end
  height_front at l =
      let b = end_least s (width_end s at) in
      let w = width_front at (omega arith) in
      let h = k.front_field (width_end s at) (omega arith) l in
      (moved h.0 w.1, h.1 ∙ ap (field_end t) w.1)

  maxval_front : (at : ℕ) → maxval_end s at ≤ length front → Alike s (height_end s at) t (height_end t at) × (maxval_end s at ≡ maxval_end t at)
  unfolding maxval_end
  maxval_front at l =
      let b = end_least s (height_end s at) in
      let h = height_front at (omega arith) in
      let m = k.front_field (height_end s at) (omega arith) l in
      (moved m.0 h.1, m.1 ∙ ap (field_end t) h.1)

  -- the ends of the three stand one behind another
  ascending : (at : ℕ) → (at + 2 ≤ width_end s at) × ((width_end s at ≤ height_end s at) × (height_end s at ≤ maxval_end s at))
  unfolding width_end height_end maxval_end
  ascending at = (end_least s (at + 2), (end_least s (width_end s at), end_least s (height_end s at)))

  -- an image that ends in front of the place
  image_front : (at : ℕ) → image_end s at ≤ length front → Image s at t at × (image_end s at ≡ image_end t at)
  unfolding rows_at image_end has_blank SameRows
  image_front at l =
      let o = ascending at in
      let w = width_front at (omega arith) in
      let h = height_front at (omega arith) in
      let m = maxval_front at (omega arith) in
      let g : Header s at t at = record { magic = magic_front at (omega arith); width = w.0; height = h.0; maxval = m.0 } in
      let e : maxval_end s at ≡ maxval_end t at = m.1 in
      let a = row_bytes_same g in
      let b : get_or s (maxval_end s at) 0 ≡ get_or t (maxval_end t at) 0 = k.same (maxval_end s at) (omega arith) ∙ ap (λ (n : ℕ). get_or t n 0) e in
      let u = k.s_least in
      let v = k.t_least in
      let r : ltb (length s - (maxval_end s at + 1)) (row_bytes s at) ≡ false = le-ltb (length s - (maxval_end s at + 1)) (row_bytes s at) (omega arith) in
      let q : ltb (length t - (maxval_end t at + 1)) (row_bytes t at) ≡ false = le-ltb (length t - (maxval_end t at + 1)) (row_bytes t at) (omega arith) in (
        record {
          tests = tests_same g (ap is_blank b) (r ∙ sym q);
          width = width_same g;
          height = height_same g;
          maxval = maxval_same g;
          rows = λ i n. k.same (maxval_end s at + 1 + i) (omega arith) ∙ ap (λ (c : ℕ). get_or t (c + 1 + i) 0) e;
        },
        ap (λ (n : ℕ). n + 1 + row_bytes s at) e ∙ ap (λ (n : ℕ). maxval_end t at + 1 + n) a,
      )

  -- ---- the image that holds the place

  module _ (at start : ℕ) (l : start ≤ length front) (o : all_space false (drop start front) ≡ true) where
    in_width : start ≡ at + 2 → Image s at t at × (drop (image_end s at) s ≡ drop (image_end t at) t)
    unfolding width_end height_end maxval_end
    in_width e =
        let w = k.here_field (at + 2) (omega arith) (ap (λ (n : ℕ). all_space false (drop n front)) (sym e) ∙ o) in
        let h = behind_field s (width_end s at) t (width_end t at) w.1 in
        let m = behind_field s (height_end s at) t (height_end t at) h.1 in
        image_of (record { magic = magic_front at (omega arith); width = w.0; height = h.0; maxval = m.0 }) m.1

    in_height : start ≡ width_end s at → Image s at t at × (drop (image_end s at) s ≡ drop (image_end t at) t)
    unfolding height_end maxval_end
    in_height e =
        let c = ascending at in
        let w = width_front at (omega arith) in
        let h = k.here_field (width_end s at) (omega arith) (ap (λ (n : ℕ). all_space false (drop n front)) (sym e) ∙ o) in
        let d : drop (height_end s at) s ≡ drop (height_end t at) t = h.1 ∙ ap (λ (n : ℕ). drop (field_end t n) t) w.1 in
        let m = behind_field s (height_end s at) t (height_end t at) d in
        image_of (record { magic = magic_front at (omega arith); width = w.0; height = moved h.0 w.1; maxval = m.0 }) m.1

    in_maxval : start ≡ height_end s at → Image s at t at × (drop (image_end s at) s ≡ drop (image_end t at) t)
    unfolding maxval_end
    in_maxval e =
        let c = ascending at in
        let w = width_front at (omega arith) in
        let h = height_front at (omega arith) in
        let m = k.here_field (height_end s at) (omega arith) (ap (λ (n : ℕ). all_space false (drop n front)) (sym e) ∙ o) in
        let d : drop (maxval_end s at) s ≡ drop (maxval_end t at) t = m.1 ∙ ap (λ (n : ℕ). drop (field_end t n) t) h.1 in
        image_of (record { magic = magic_front at (omega arith); width = w.0; height = h.0; maxval = moved m.0 h.1 }) d

    image_here : BeforeNumber s at start → Image s at t at × (drop (image_end s at) s ≡ drop (image_end t at) t)
    unfolding BeforeNumber
    image_here (inl e) = in_width e
    image_here (inr (inl e)) = in_height e
    image_here (inr (inr e)) = in_maxval e

    -- the magic stands in front of the place
    image_least : BeforeNumber s at start → at ≤ length front
    unfolding BeforeNumber
    image_least (inl e) = omega arith
    image_least (inr (inl e)) = omega (arith, (ascending at).0)
    image_least (inr (inr e)) = omega (arith, (ascending at).0, (ascending at).1.0)

-- ---- the three images

record Three (s t : List ℕ) : Type 0 where
  y : Image s 0 t 0
  cb : Image s (cb_at s) t (cb_at t)
  cr : Image s (cr_at s) t (cr_at t)
  -- the same bytes are left over
  over : drop (image_end s (cr_at s)) s ≡ drop (image_end t (cr_at t)) t

-- the same image at a place that is equal
image_moved : {s : List ℕ} {at : ℕ} {t : List ℕ} {to there : ℕ} → to ≡ there → Image s at t to → Image s at t there
image_moved {s} {at} {t} e i = subst (λ (n : ℕ). Image s at t n) e i

module _ {s t front : List ℕ} (k : Replaced s t front) (start : ℕ) (l : start ≤ length front) (o : all_space false (drop start front) ≡ true) where
  in_y : BeforeNumber s 0 start → Three s t
  unfolding cb_at cr_at
  in_y b =
      let y = image_here k 0 start l o b in
      let cb = image_behind_is s (cb_at s) t (cb_at t) y.1 in
      let cr = image_behind_is s (cr_at s) t (cr_at t) cb.1 in
      record { y = y.0; cb = cb.0; cr = cr.0; over = cr.1 }

  in_cb : BeforeNumber s (cb_at s) start → Three s t
  unfolding cb_at cr_at
  in_cb b =
      let y = image_front k 0 (image_least k (cb_at s) start l o b) in
      let cb = image_here k (cb_at s) start l o b in
      let cr = image_behind_is s (cr_at s) t (cr_at t) (cb.1 ∙ ap (λ (n : ℕ). drop (image_end t n) t) y.1) in
      record { y = y.0; cb = image_moved y.1 cb.0; cr = cr.0; over = cr.1 }

  in_cr : BeforeNumber s (cr_at s) start → Three s t
  unfolding cb_at cr_at
  in_cr b =
      let c = image_least k (cr_at s) start l o b in
      let y = image_front k 0 (omega (arith, end_behind s (cb_at s))) in
      let cb = image_front k (cb_at s) c in
      let e : cr_at s ≡ cr_at t = cb.1 ∙ ap (image_end t) y.1 in
      let cr = image_here k (cr_at s) start l o b in
      record { y = y.0; cb = image_moved y.1 cb.0; cr = image_moved e cr.0; over = cr.1 ∙ ap (λ (n : ℕ). drop (image_end t n) t) e }

  three : InHeader s start → Three s t
  unfolding InHeader
  three (inl b) = in_y b
  three (inr (inl b)) = in_cb b
  three (inr (inr b)) = in_cr b

-- ---- the whole

-- what is left decides whether something is
over_same : (a b n m : ℕ) → n - a ≡ m - b → ltb a n ≡ ltb b m
over_same a b n m e = go (ltb a n) (ltb-true a n) (ltb-false a n)
  where
    go : (c : Bool) → (c ≡ true → a < n) → (c ≡ false → n ≤ a) → c ≡ ltb b m
    go true f g = let l = f refl in sym (lt-ltb b m (omega arith))
    go false f g = let l = g refl in sym (le-ltb b m (omega arith))

module _ {s t : List ℕ} (h : Three s t) where
  layout_same : input_layout s ≡ input_layout t
  unfolding input_layout
  layout_same = rw (h.y.width, h.y.height, h.cb.width, h.cb.height, h.cr.width, h.cr.height, h.y.maxval) refl

  images_same : images_tests s ≡ images_tests t
  unfolding images_tests
  images_same = let m = h.y.maxval in rw (h.y.tests m, h.cb.tests m, h.cr.tests m) refl

  whole_same : whole_tests s ≡ whole_tests t
  unfolding whole_tests
  whole_same =
      let e : ltb (image_end s (cr_at s)) (length s) ≡ ltb (image_end t (cr_at t)) (length t) = over_same _ _ _ _ (left_behind s (image_end s (cr_at s)) t (image_end t (cr_at t)) h.over) in
      rw (e, layout_same) refl

  tests_alike : length s ≤ 49152 → length t ≤ 49152 → reading_tests s ≡ reading_tests t
  unfolding reading_tests
  tests_alike l m = rw (le-ltb 49152 (length s) l, le-ltb 49152 (length t) m, images_same, whole_same) refl

-- "counts as whitespace": a comment in the place of a whitespace byte of a header changes nothing of what is read
pub comment_alike : (s t : List ℕ) → Commented s t → length t ≤ 49152 → ReadAlike s t
comment_alike s t c l =
    let b = c.blank in
    let x = c.text ++ (c.last ∷ []) in
    let e : c.front ++ (35 ∷ (x ++ c.rest)) ≡ t = ap (λ (w : List ℕ). c.front ++ (35 ∷ w)) (append_assoc c.text (c.last ∷ []) c.rest) ∙ sym c.t_is in
    let k : Replaced (c.front ++ (b ∷ c.rest)) (c.front ++ (35 ∷ (x ++ c.rest))) c.front = replaced_in c.front c.rest b 35 [] x (blank_all b c.blank_is) (comment_all c.text c.last c.text_is c.last_is) in
    let q : Replaced s t c.front = rw (c.s_is, sym e) k in
    let h = three q c.start c.start_most c.whitespace_is c.in_header in
    let n : length s ≡ length c.front + suc (length c.rest) = ap length c.s_is ∙ length-append c.front (b ∷ c.rest) in
    let m : length t ≡ length c.front + suc (length (x ++ c.rest)) = ap length (sym e) ∙ length-append c.front (35 ∷ (x ++ c.rest)) in
    let d = length-append x c.rest in
    record {
      answer = ap first (tests_alike h (omega arith) l);
      layout = layout_same h;
      y = h.y.rows;
      cb = h.cb.rows;
      cr = h.cr.rows;
    }
