-- Lines: texts put one behind the other.
-- `line_written` carries every line: texts written one behind the other from the empty line on are held as one. The one step is `push_line`,
-- where the byte that is set at the end takes the place of the first of the zeros that fill up the array.
use Rattle.std.proofs.Common.{◌≡◌, refl, sym, ap, ◌∙◌, List, [], ◌∷◌, ◌++◌, append_assoc, append-nil, ℕ, suc, ◌+◌, ◌-◌, ◌≤◌, ◌<◌, add-one, arith, length, get_or, set, drop, replicate, length-append, drop_of_length-le, drop-cons}
use lib.Seq.{set-append_seam}
use Rattle.netpbm.specs.declared.lines.Line.{Line}
use Rattle.netpbm.specs.Texts.{line_of}
use Rattle.netpbm.specs.Inner.Texts.{pushed, written, Put}

pub pushed_len : (l : Line) (b : ℕ) → (pushed l b).len ≡ l.len + 1
unfolding pushed
pushed_len l b = refl

-- a text written behind a line, by its contract's record
written_len : (l : Line) (t : List ℕ) → (written l t).len ≡ l.len + length t
unfolding written
written_len l [] = omega arith
written_len l (b ∷ t) = let h = written_len (pushed l b) t in let k = pushed_len l b in omega arith

pub put_is : (l : Line) (t : List ℕ) (r : Line) → r ≡ written l t → Put l t r
put_is l t r e = record { is = e; len = ap (λ (x : Line). x.len) e ∙ written_len l t }

-- ---- the loop: what is left of the text, put behind the line, makes the whole

pub record Putting (before line : Line) (text : List ℕ) (i : ℕ) : Type 0 where
  pub most : i ≤ length text
  pub len : line.len ≡ before.len + i
  pub left : written line (drop i text) ≡ written before text

pub putting_none : (l : Line) (text : List ℕ) → Putting l l text 0
putting_none l text = record { most = omega arith; len = omega arith; left = refl }

module _ {before line : Line} {text : List ℕ} {i : ℕ} (p : Putting before line text i) where
  pub putting_more : (next : Line) → i < length text → next ≡ pushed line (get_or text i 0) → Putting before next text (i + 1)
  unfolding written
  putting_more next l e =
      let d : drop i text ≡ get_or text i 0 ∷ drop (i + 1) text = rw (add-one i) (drop-cons text i 0 l) in
      record {
        most = omega arith;
        len = let k = ap (λ (x : Line). x.len) e ∙ pushed_len line (get_or text i 0) in let m = p.len in omega arith;
        left = ap (λ (x : Line). written x (drop (i + 1) text)) e ∙ sym (ap (written line) d) ∙ p.left;
      }

  pub putting_end : length text ≤ i → line ≡ written before text
  unfolding written
  putting_end g = sym (ap (written line) (drop_of_length-le text g)) ∙ p.left

-- ---- a line that holds a text

push_line : (t : List ℕ) (b : ℕ) → length t < 16 → pushed (line_of t) b ≡ line_of (t ++ (b ∷ []))
unfolding pushed line_of
push_line t b l =
    let n : length (t ++ (b ∷ [])) ≡ length t + 1 = length-append t (b ∷ []) in
    let k : 16 - length t ≡ suc (16 - (length t + 1)) = omega arith in
    let e : set (t ++ replicate (16 - length t) 0) (length t) b ≡ (t ++ (b ∷ [])) ++ replicate (16 - (length t + 1)) 0 =
    ap (λ (m : ℕ). set (t ++ replicate m 0) (length t) b) k
    ∙ set-append_seam t 0 (replicate (16 - (length t + 1)) 0) b
    ∙ sym (append_assoc t (b ∷ []) (replicate (16 - (length t + 1)) 0)) in
    rw (n, e) refl

write_line : (t u : List ℕ) → length t + length u ≤ 16 → written (line_of t) u ≡ line_of (t ++ u)
unfolding written
write_line t [] l = ap line_of (sym (append-nil t))
write_line t (b ∷ u) l =
    let n : length (t ++ (b ∷ [])) ≡ length t + 1 = length-append t (b ∷ []) in
    ap (λ (x : Line). written x u) (push_line t b (omega arith))
    ∙ write_line (t ++ (b ∷ [])) u (omega arith)
    ∙ ap line_of (append_assoc t (b ∷ []) u)

-- texts written one behind the other are one text
pub written_on : (l : Line) (t u : List ℕ) → written (written l t) u ≡ written l (t ++ u)
unfolding written
written_on l [] u = refl
written_on l (b ∷ t) u = written_on (pushed l b) t u

-- and from the empty line on they make the line that holds it
pub line_written : (t : List ℕ) (l : Line) → length t ≤ 16 → l ≡ written (line_of []) t → l ≡ line_of t
line_written t l h e = e ∙ write_line [] t (omega arith)
