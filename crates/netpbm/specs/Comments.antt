-- What the rule on comments comes to over a whole input: a comment may stand wherever whitespace may, and what is read is the same.
-- Definitions only.
use Rattle.std.specs.Prelude.{◌≡◌, ◌⊎◌, Bool, true, false, ◌&&◌, not, List, [], ◌∷◌, ◌++◌, ℕ, ◌+◌, ◌≤◌, ◌<◌, length, get_or, drop}
use Rattle.laws.specs.Refusals.{first}
use Rattle.netpbm.specs.Ascii.{is_blank, ends_comment}
use Rattle.netpbm.specs.Bytes.{leading, in_comment, is_space}
use Rattle.netpbm.specs.Images.{width_end, height_end, rows_at, row_bytes}
use Rattle.netpbm.specs.Reading.{cb_at, cr_at, input_layout, reading_tests}

-- these bytes are whitespace, comments counted, and the byte behind them lies in no comment; c: the first lies in one
unfoldable pub all_space : Bool → List ℕ → Bool
all_space c [] = not c
all_space c (b ∷ bs) = is_space c b && all_space (in_comment c b) bs

-- the whitespace before the width, the height or the maxval of the image at `at` begins at `start`
unfoldable pub BeforeNumber : List ℕ → ℕ → ℕ → Type 0
BeforeNumber s at start = (start ≡ at + 2) ⊎ ((start ≡ width_end s at) ⊎ (start ≡ height_end s at))

-- that of one of the three images does: it stands "anywhere between the magic and the maxval"
unfoldable pub InHeader : List ℕ → ℕ → Type 0
InHeader s start = BeforeNumber s 0 start ⊎ (BeforeNumber s (cb_at s) start ⊎ BeforeNumber s (cr_at s) start)

-- t is s with a comment in the place of a whitespace byte that stands in a header and lies in no comment
pub record Commented (s t : List ℕ) : Type 0 where
  -- s: a front, the whitespace byte, the rest
  pub front : List ℕ
  pub blank : ℕ
  pub rest : List ℕ
  pub s_is : s ≡ front ++ (blank ∷ rest)
  pub blank_is : is_blank blank ≡ true
  -- "a `#` .. starts a comment that runs through the next carriage return or newline": the mark, a text that ends no comment, a byte that does
  pub text : List ℕ
  pub last : ℕ
  pub t_is : t ≡ front ++ (35 ∷ (text ++ (last ∷ rest)))
  pub text_is : leading (λ b. not (ends_comment b)) text ≡ length text
  pub last_is : ends_comment last ≡ true
  -- from where the whitespace before a number begins to the front's end all is whitespace, and no comment is left open
  pub start : ℕ
  pub in_header : InHeader s start
  pub start_most : start ≤ length front
  pub whitespace_is : all_space false (drop start front) ≡ true

-- the image of s at `at` and that of t at `to` have the same row bytes
unfoldable pub SameRows : List ℕ → ℕ → List ℕ → ℕ → Type 0
SameRows s at t to = (i : ℕ) → i < row_bytes s at → get_or s (rows_at s at + i) 0 ≡ get_or t (rows_at t to + i) 0

-- the same answer, the same layout, the same samples of Y, Cb and Cr
pub record ReadAlike (s t : List ℕ) : Type 0 where
  pub answer : first (reading_tests s) ≡ first (reading_tests t)
  pub layout : input_layout s ≡ input_layout t
  pub y : SameRows s 0 t 0
  pub cb : SameRows s (cb_at s) t (cb_at t)
  pub cr : SameRows s (cr_at s) t (cr_at t)
