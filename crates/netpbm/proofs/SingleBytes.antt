-- An input of maxval 255 is read as it was before there were other maxvals: a sample is the byte that stands there, the rows have as many bytes
-- as samples, and another maxval behind it is 14. The definitions compute, but for the test, which is looked at in both ways.
use Rattle.std.proofs.Common.{◌≡◌, refl, ap, ◌∙◌, Bool, true, false, ◌||◌, not, List, ℕ, ◌+◌, ◌*◌, arith, eqb, get_or, eqb-true, ne_eqb}
use borrow.Author.Tests.{eqb-false}
use Rattle.laws.specs.Numbers.{outside_of}
use Rattle.netpbm.specs.Bytes.{big_of}
use Rattle.netpbm.specs.Images.{width_of, height_of, maxval_of, rows_at, sample_bytes, row_bytes, image_sample, bad_maxval}

-- a sample of one byte is the byte
byte : (s : List ℕ) (at : ℕ) → big_of 1 s at ≡ get_or s at 0
unfolding big_of
byte s at = let e : get_or s (at + 0) 0 ≡ get_or s at 0 = ap (λ (k : ℕ). get_or s k 0) (omega arith) in omega arith

module _ (s : List ℕ) (at : ℕ) where
  -- "Maxval is 255 in all three"
  pub single_maxval : maxval_of s 0 ≡ 255 → bad_maxval s at ≡ not (eqb (maxval_of s at) 255)
  unfolding bad_maxval
  single_maxval e = rw e (go (maxval_of s at) (eqb (maxval_of s at) 255) refl)
    where
      other : (b : Bool) → (b || true) ≡ true
      other true = refl
      other false = refl

      go : (m : ℕ) (t : Bool) → eqb m 255 ≡ t → (outside_of 1 65535 m || not (eqb 255 m)) ≡ not t
      go m true d = rw (eqb-true m 255 d) refl
      go m false d = ap (λ (b : Bool). outside_of 1 65535 m || not b) (ne_eqb 255 m (λ f. eqb-false m 255 d (omega arith))) ∙ other (outside_of 1 65535 m)

  module _ (e : maxval_of s at ≡ 255) where
    one : sample_bytes (maxval_of s at) ≡ 1
    unfolding sample_bytes
    one = rw e refl

    pub single_rows : row_bytes s at ≡ width_of s at * height_of s at
    unfolding row_bytes
    single_rows = rw one (omega arith)

    pub single_sample : (y x : ℕ) → image_sample s at y x ≡ get_or s (rows_at s at + (y * width_of s at + x)) 0
    unfolding image_sample
    single_sample y x = rw one (byte s (rows_at s at + (y * width_of s at + x) * 1) ∙ ap (λ (k : ℕ). get_or s k 0) (omega arith))
