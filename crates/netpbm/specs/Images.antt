-- One image of the input, whose magic stands at `at`: "each with the two bytes P5, whitespace, decimal width, height and maxval, one
-- whitespace byte, then rows". Definitions only.
use Rattle.std.specs.Prelude.{Bool, ◌&&◌, ◌||◌, not, cond, List, [], ◌∷◌, ℕ, ◌+◌, ◌-◌, ◌*◌, ltb, eqb, length, get_or}
use Rattle.laws.specs.Refusals.{Test}
use Rattle.laws.specs.Numbers.{outside_of}
use Rattle.netpbm.specs.Bytes.{has_blank, has_space, has_digit, past_spaces, past_digits, number_at, big_of}
use Rattle.laws.specs.declared.refusal.Refusal.TheVariants.{BadHeader, TooLarge}

-- "the two bytes P5"
unfoldable pub has_magic : List ℕ → ℕ → Bool
has_magic s at = eqb (get_or s at 0) 80 && eqb (get_or s (at + 1) 0) 53

-- ---- a number of the header: "whitespace", "one or more", comments counted, then digits, one or more

unfoldable pub has_number : List ℕ → ℕ → Bool
has_number s at = has_space s at && has_digit s (past_spaces s at)

unfoldable pub field_of : List ℕ → ℕ → ℕ
field_of s at = number_at s (past_spaces s at)

unfoldable pub field_end : List ℕ → ℕ → ℕ
field_end s at = past_digits s (past_spaces s at)

-- ---- the header's three numbers, and where each ends

unfoldable pub width_of : List ℕ → ℕ → ℕ
width_of s at = field_of s (at + 2)

unfoldable pub width_end : List ℕ → ℕ → ℕ
width_end s at = field_end s (at + 2)

unfoldable pub height_of : List ℕ → ℕ → ℕ
height_of s at = field_of s (width_end s at)

unfoldable pub height_end : List ℕ → ℕ → ℕ
height_end s at = field_end s (width_end s at)

unfoldable pub maxval_of : List ℕ → ℕ → ℕ
maxval_of s at = field_of s (height_end s at)

unfoldable pub maxval_end : List ℕ → ℕ → ℕ
maxval_end s at = field_end s (height_end s at)

-- "one whitespace byte, then rows": where the first row byte stands. "The byte just after the maxval is still single", so no comment stands there
unfoldable pub rows_at : List ℕ → ℕ → ℕ
rows_at s at = maxval_end s at + 1

-- ---- the rows, one right behind the other

-- "Above 255 a sample is two bytes": how many bytes a sample has at this maxval
unfoldable pub sample_bytes : ℕ → ℕ
sample_bytes maxval = cond (ltb 255 maxval) 2 1

-- how many bytes all rows have
unfoldable pub row_bytes : List ℕ → ℕ → ℕ
row_bytes s at = width_of s at * height_of s at * sample_bytes (maxval_of s at)

-- where the last row has ended, which is where the next image's magic stands
unfoldable pub image_end : List ℕ → ℕ → ℕ
image_end s at = rows_at s at + row_bytes s at

-- the sample of row y, column x
unfoldable pub image_sample : List ℕ → ℕ → ℕ → ℕ → ℕ
image_sample s at y x = let b = sample_bytes (maxval_of s at) in big_of b s (rows_at s at + (y * width_of s at + x) * b)

-- ---- what can be wrong with it

-- "any maxval from 1 to 65,535, the same in all three images": not so; the first image stands at 0
unfoldable pub bad_maxval : List ℕ → ℕ → Bool
bad_maxval s at = outside_of 1 65535 (maxval_of s at) || not (eqb (maxval_of s 0) (maxval_of s at))

-- the tests, in the order in which they are met: 14, "header not as above", and 15, "program's size limits passed, or
-- rows missing"; "a width past 128 as its digits end"
unfoldable pub image_tests : List ℕ → ℕ → List Test
image_tests s at =
    (not (has_magic s at), BadHeader)
    ∷ (not (has_number s (at + 2)), BadHeader)
    ∷ (ltb 128 (width_of s at), TooLarge)
    ∷ (not (has_number s (width_end s at)), BadHeader)
    ∷ (not (has_number s (height_end s at)), BadHeader)
    ∷ (bad_maxval s at, BadHeader)
    ∷ (not (has_blank s (maxval_end s at)), BadHeader)
    ∷ (ltb (length s - rows_at s at) (row_bytes s at), TooLarge)
    ∷ []
