-- A line at the front of out, and what is behind it.
-- `ppm_is` carries the program's output: out is cut behind the header, the part behind it is lent and comes back filled, and joined again
-- they are `ppm_over`. The step is that the line's copy left what is behind it untouched (`behind_is`).
use Rattle.std.proofs.Common.{◌≡◌, refl, sym, ap, ◌∙◌, List, [], ◌++◌, append-nil, ℕ, ◌+◌, ◌≤◌, ◌<◌, ◌*◌, ◌-◌, arith, length, get_or, take, drop, length-drop, drop_of_length-le, ext_get_or, get_or-drop}
use lib.ListN.{get_or-append}
use Rattle.laws.specs.Lists.{put, table}
use Rattle.laws.proofs.Lists.{length_put, put_after, take_put, length_table, table_at}
use Rattle.image.specs.declared.layout.Layout.{Layout}
use Rattle.image.specs.Picture.{Picture, picture_of}
use Rattle.kernels.specs.declared.kernel.YcbcrKernel.TheVariants.{Exact}
use Rattle.fill.specs.declared.options.ChromaUpsampling.TheVariants.{LumaGuided}
use Rattle.fill.specs.Fill.{fill_colour, pixel_rows}
use Rattle.netpbm.specs.declared.lines.Line.{Line}
use Rattle.netpbm.specs.Texts.{line_of}
use Rattle.netpbm.specs.Lines.{ppm_header}
use Rattle.picture.specs.Picture.{ppm_length, ppm_over}
use Rattle.netpbm.specs.Inner.Taken.{Taken}
use Rattle.netpbm.specs.declared.reading.Reading.{Reading}
use Rattle.netpbm.proofs.Digits.{header_most}
use Rattle.picture.specs.Inner.Planes.{picture_from}
use Rattle.picture.proofs.Readings.{to_end, pixels_most}

-- ---- a line that holds a text, put to the front of out

pub line_length : (t : List ℕ) (line : Line) → line ≡ line_of t → line.len ≡ length t
unfolding line_of
line_length t line e = ap (λ (l : Line). l.len) e

module _ (t : List ℕ) (line : Line) (e : line ≡ line_of t) (out : List ℕ) where
  byte : (i : ℕ) → i < length t → get_or line.bytes i 0 ≡ get_or t i 0
  unfolding line_of
  byte i l = ap (λ (x : Line). get_or x.bytes i 0) e ∙ get_or-append t _ 0 i l

  -- the text that the line holds stands at the front of out
  pub front_is : length t ≤ length out → take (length t) (put out 0 line.len (λ i. get_or line.bytes i 0)) ≡ t
  front_is l =
      ap (λ (k : ℕ). take (length t) (put out 0 k (λ i. get_or line.bytes i 0))) (line_length t line e)
      ∙ take_put out (length t) (λ i. get_or line.bytes i 0) l
      ∙ ext_get_or 0 (table (length t) (λ i. get_or line.bytes i 0)) t (length_table (length t) _) (λ i h. let k = length_table (length t) (λ i. get_or line.bytes i 0) in table_at (length t) (λ i. get_or line.bytes i 0) i 0 (omega arith) ∙ byte i (omega arith))

  -- behind the text nothing of out is touched
  pub behind_is : drop (length t) (put out 0 line.len (λ i. get_or line.bytes i 0)) ≡ drop (length t) out
  behind_is =
      let f : ℕ → ℕ = λ i. get_or line.bytes i 0 in
      ap (λ (k : ℕ). drop (length t) (put out 0 k f)) (line_length t line e)
      ∙ ext_get_or 0 (drop (length t) (put out 0 (length t) f)) (drop (length t) out) (simp (length-drop, length_put)) (λ i h. get_or-drop (length t) (put out 0 (length t) f) i 0 ∙ put_after out 0 (length t) f (length t + i) 0 (omega arith) ∙ sym (get_or-drop (length t) out i 0))

-- ---- header and pixels

pub ppm_length_is : (l : Layout) (line : Line) → line ≡ line_of (ppm_header l.w l.h) → line.len + l.w * l.h * 3 ≡ ppm_length l
unfolding ppm_length
ppm_length_is l line e = ap (λ (k : ℕ). k + l.w * l.h * 3) (line_length _ line e)

-- a PPM of what was read is a header, of 16 bytes at most, and three bytes for each pixel
pub ppm_most : {s : List ℕ} {r : Reading} → Taken s r → ppm_length r.layout ≤ 147472
unfolding ppm_length
ppm_most {r = r} t =
    let h = header_most r.layout.w r.layout.h t.width in
    let p = pixels_most t in
    omega arith

-- the header is no longer than a line, and where out has n bytes and room for the PPM, the pixels have room behind the header
pub ppm_room : {s : List ℕ} {r : Reading} {line : Line} {n : ℕ} → Taken s r → line ≡ line_of (ppm_header r.layout.w r.layout.h) → ppm_length r.layout ≤ n → (line.len ≤ 16) × (line.len + r.layout.w * r.layout.h * 3 ≤ n)
ppm_room {r = r} {line = line} t e g =
    let a = line_length _ line e in
    let b = header_most r.layout.w r.layout.h t.width in
    let c = ppm_length_is r.layout line e in
    (omega arith, omega arith)

-- the header and the rows behind it, where the part behind the header was lent out and came back
module _ (p : Picture) (l : Layout) (q : p.layout ≡ l) (line : Line) (e : line ≡ line_of (ppm_header l.w l.h)) (out : List ℕ) (g : length (ppm_header l.w l.h) ≤ length out) where
  pub ppm_is : (front ys : List ℕ) → front ≡ put out 0 line.len (λ i. get_or line.bytes i 0) → ys ≡ pixel_rows l.w 3 (fill_colour LumaGuided Exact p) 0 l.h (take (length front - line.len) (drop line.len front)) → take line.len front ++ (ys ++ drop (length front - line.len) (drop line.len front)) ≡ ppm_over p out
  unfolding ppm_over
  ppm_is front ys f h =
      let t = ppm_header l.w l.h in
      let n = line_length t line e in
      let a : take line.len front ≡ t = rw f (ap (λ (k : ℕ). take k (put out 0 line.len (λ i. get_or line.bytes i 0))) n ∙ front_is t line e out g) in
      let b : drop line.len front ≡ drop (length t) out = rw f (ap (λ (k : ℕ). drop k (put out 0 line.len (λ i. get_or line.bytes i 0))) n ∙ behind_is t line e out) in
      let c : drop (length front - line.len) (drop line.len front) ≡ [] = let m : length (drop line.len front) ≤ length front - line.len = let k = length-drop line.len front in omega arith in drop_of_length-le (drop line.len front) m in
      let d : ys ≡ pixel_rows l.w 3 (fill_colour LumaGuided Exact p) 0 l.h (drop (length t) out) = h ∙ ap (pixel_rows l.w 3 (fill_colour LumaGuided Exact p) 0 l.h) (to_end front line.len ∙ b) in
      ap (λ (x : List ℕ). take line.len front ++ (ys ++ x)) c
      ∙ ap (λ (x : List ℕ). take line.len front ++ x) (append-nil ys ∙ d)
      ∙ ap (λ (x : List ℕ). x ++ pixel_rows l.w 3 (fill_colour LumaGuided Exact p) 0 l.h (drop (length t) out)) a
      ∙ rw q refl

-- The same of a picture that was read, where out has room for all of the PPM. `Taken` says no more here than which planes the picture is made of.
pub read_ppm_is : {s : List ℕ} {r : Reading} {line : Line} → Taken s r → line ≡ line_of (ppm_header r.layout.w r.layout.h) → (out front ys : List ℕ) → ppm_length r.layout ≤ length out → front ≡ put out 0 line.len (λ i. get_or line.bytes i 0)
    → ys ≡ pixel_rows r.layout.w 3 (fill_colour LumaGuided Exact (picture_from s r)) 0 r.layout.h (take (length front - line.len) (drop line.len front))
    → take line.len front ++ (ys ++ drop (length front - line.len) (drop line.len front)) ≡ ppm_over (picture_from s r) out
unfolding ppm_length picture_of
read_ppm_is {s} {r} {line} o e out front ys g f h = ppm_is (picture_from s r) r.layout refl line e out (omega arith) front ys f h
