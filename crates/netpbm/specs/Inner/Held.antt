-- What the inner functions hold of one image: the definitions of Bytes and Images, with numbers past 65,536 held as 65,536, so that no
-- product of two wraps. proofs/Products says why no test is changed by that. Definitions only.
use Rattle.std.specs.Prelude.{Bool, ◌&&◌, ◌||◌, not, List, [], ◌∷◌, ℕ, ◌+◌, ◌-◌, ◌*◌, min, ltb, eqb, length, get_or, Result, Ok, Err}
use Rattle.laws.specs.declared.refusal.Refusal.{Refusal}
use Rattle.laws.specs.Refusals.{Answer, Test, first}
use Rattle.laws.specs.Numbers.{outside_of}
use Rattle.netpbm.specs.declared.scan.Number.{Number}
use Rattle.netpbm.specs.declared.pgm.Field.{Field}
use Rattle.netpbm.specs.declared.pgm.Header.{Header}
use Rattle.netpbm.specs.declared.pgm.Image.{Image}
use Rattle.netpbm.specs.Bytes.{has_blank, is_space, past_digits, number_at}
use Rattle.netpbm.specs.Images.{has_magic, has_number, field_of, field_end, width_of, width_end, height_of, height_end, maxval_of, rows_at, sample_bytes, image_tests}
use Rattle.laws.specs.declared.refusal.Refusal.TheVariants.{BadHeader, TooLarge}

-- a number as it is held: 65,536 is `Number::MOST`
abbrev pub held : ℕ → ℕ
held n = min n 65536

-- the byte at `at` is whitespace, begins a comment or lies in one (c); past the end none is or does, not even where a comment never ended
unfoldable pub space_held : List ℕ → Bool → ℕ → Bool
space_held s c at = ltb at (length s) && is_space c (get_or s at 0)

-- the number whose digits begin at `at`, and where they end
unfoldable pub number_held : List ℕ → ℕ → Number
number_held s at = record { value = held (number_at s at); end = past_digits s at }

-- the number of a header that begins with the whitespace at `at`
unfoldable pub field_held : List ℕ → ℕ → Field
field_held s at = record { good = has_number s at; value = held (field_of s at); end = field_end s at }

-- the three numbers of the header of the image at `at`
unfoldable pub header_held : List ℕ → ℕ → Header
header_held s at = record { width = field_held s (at + 2); height = field_held s (width_end s at); maxval = field_held s (height_end s at) }

-- how many bytes the rows of an image of this header have
unfoldable pub rows_held : Header → ℕ
rows_held h = h.width.value * h.height.value * sample_bytes h.maxval.value

-- a maxval that is outside its span or not the one wanted
abbrev pub other_maxval : ℕ → ℕ → Bool
other_maxval wanted m = outside_of 1 65535 m || not (eqb wanted m)

-- the tests on the numbers as they are held, where this maxval is wanted
unfoldable pub held_tests : List ℕ → ℕ → Header → ℕ → List Test
held_tests s at h wanted =
    (not (has_magic s at), BadHeader)
    ∷ (not h.width.good, BadHeader)
    ∷ (ltb 128 h.width.value, TooLarge)
    ∷ (not h.height.good, BadHeader)
    ∷ (not h.maxval.good, BadHeader)
    ∷ (other_maxval wanted h.maxval.value, BadHeader)
    ∷ (not (has_blank s h.maxval.end), BadHeader)
    ∷ (ltb (length s - (h.maxval.end + 1)) (rows_held h), TooLarge)
    ∷ []

-- the image where the answer is accepted, and otherwise the answer's reason
abbrev pub answered : Answer → Image → Result Image Refusal
answered (Ok _) i = Ok i
answered (Err why) i = Err why

-- the image whose magic stands at `at`, or the first thing that is wrong with it
unfoldable pub image_held : List ℕ → ℕ → Result Image Refusal
image_held s at = answered (first (image_tests s at)) (record {
  w = held (width_of s at);
  h = held (height_of s at);
  maxval = held (maxval_of s at);
  rows = rows_at s at;
  end = rows_at s at + rows_held (header_held s at);
})
