-- Worked examples of the definitions: document 01's picture, the table's examples of 14 and 15, headers with comments, two-byte samples and their
-- maxvals, and the lines that are written.
use Rattle.std.proofs.Common.{◌≡◌, refl, inl, inr, List, [], ◌∷◌, ◌++◌, ℕ, arith, Ok, Err}
use Rattle.image.specs.declared.layout.Range.TheVariants.{Full}
use Rattle.laws.specs.Axes.{plain}
use Rattle.laws.specs.Refusals.{first}
use Rattle.image.specs.Tests.{div_ceil, bad_size}
use Rattle.netpbm.specs.Bytes.{leading, spaces, decimal_of, has_blank, has_space, has_digit, digits_at, past_spaces, past_digits, number_at, big_of}
use Rattle.netpbm.specs.Images.{has_magic, has_number, field_of, field_end, width_of, width_end, height_of, height_end, maxval_of, maxval_end, rows_at, sample_bytes, row_bytes, image_end, image_sample, bad_maxval, image_tests}
use Rattle.netpbm.specs.Reading.{cb_at, cr_at, smallest, ratio_for, input_layout, no_ratio, images_tests, whole_tests, reading_tests}
use Rattle.netpbm.specs.Comments.{all_space, BeforeNumber, InHeader, Commented}
use Rattle.netpbm.specs.Inner.Reading.{reading_of}
use Rattle.netpbm.specs.Lines.{digits, digits_of, ppm_header, refusal_line}
use Rattle.laws.specs.declared.refusal.Refusal.TheVariants.{BadHeader, TooLarge}

-- `P5 1 1 255`, newline
abbrev header : List ℕ
header = 80 ∷ 53 ∷ 32 ∷ 49 ∷ 32 ∷ 49 ∷ 32 ∷ 50 ∷ 53 ∷ 53 ∷ 10 ∷ []

-- `P5 1 1 4095`, newline
abbrev deep_header : List ℕ
deep_header = 80 ∷ 53 ∷ 32 ∷ 49 ∷ 32 ∷ 49 ∷ 32 ∷ 52 ∷ 48 ∷ 57 ∷ 53 ∷ 10 ∷ []

-- three such images of the sample 2,048
abbrev deep_input : List ℕ
deep_input = deep_header ++ (8 ∷ 0 ∷ deep_header) ++ (8 ∷ 0 ∷ deep_header) ++ (8 ∷ 0 ∷ [])

-- what the whole input comes to
pub record Inputs : Type 0 where
  -- "three 1 by 1 images holding 230, 3, 128"
  pub one_by_one : reading_of (header ++ (230 ∷ header) ++ (3 ∷ header) ++ (128 ∷ [])) ≡ Ok (record { layout = record { w = 1; h = 1; rh = 1; rv = 1; cw = 1; ch = 1; across = plain; down = plain; sample_bytes = 1; maxval = 255; range = Full }; y = 11; cb = 23; cr = 35 })
  -- a byte left over
  pub one_more : reading_of (header ++ (230 ∷ header) ++ (3 ∷ header) ++ (128 ∷ 10 ∷ [])) ≡ Err BadHeader
  -- two whitespace bytes behind the maxval: the second is the row, and no magic stands behind it
  pub two_blanks : reading_of (header ++ (10 ∷ 230 ∷ header) ++ (3 ∷ header) ++ (128 ∷ [])) ≡ Err BadHeader
  -- the last row is missing
  pub no_row : reading_of (header ++ (230 ∷ header) ++ (3 ∷ header)) ≡ Err TooLarge
  -- 14: "`P4`"
  pub p4 : reading_of (80 ∷ 52 ∷ []) ≡ Err BadHeader
  -- 15: "width 129", as its digits end
  pub width_129 : reading_of (80 ∷ 53 ∷ 32 ∷ 49 ∷ 50 ∷ 57 ∷ []) ≡ Err TooLarge
  -- a width of 128 goes on, and the height is missing
  pub width_128 : reading_of (80 ∷ 53 ∷ 32 ∷ 49 ∷ 50 ∷ 56 ∷ []) ≡ Err BadHeader
  -- `P5#c`, newline, `1 1 255`, newline, in the second image: a comment in the place of whitespace
  pub comment : reading_of (header ++ (230 ∷ 80 ∷ 53 ∷ 35 ∷ 99 ∷ 10 ∷ 49 ∷ 32 ∷ 49 ∷ 32 ∷ 50 ∷ 53 ∷ 53 ∷ 10 ∷ 3 ∷ header) ++ (128 ∷ [])) ≡ Ok (record { layout = record { w = 1; h = 1; rh = 1; rv = 1; cw = 1; ch = 1; across = plain; down = plain; sample_bytes = 1; maxval = 255; range = Full }; y = 11; cb = 25; cr = 37 })
  -- `P5 1 1 255#`, CR, and the row: "the byte just after the maxval is still single"
  pub comment_behind : reading_of ((80 ∷ 53 ∷ 32 ∷ 49 ∷ 32 ∷ 49 ∷ 32 ∷ 50 ∷ 53 ∷ 53 ∷ 35 ∷ 13 ∷ 230 ∷ header) ++ (3 ∷ header) ++ (128 ∷ [])) ≡ Err BadHeader
  -- `P5 #1 1 255`: "a comment that never ends is a bad header"
  pub unended : reading_of (80 ∷ 53 ∷ 32 ∷ 35 ∷ 49 ∷ 32 ∷ 49 ∷ 32 ∷ 50 ∷ 53 ∷ 53 ∷ []) ≡ Err BadHeader
  -- `P5 129#`: the width is met before the comment
  pub wide_before : reading_of (80 ∷ 53 ∷ 32 ∷ 49 ∷ 50 ∷ 57 ∷ 35 ∷ []) ≡ Err TooLarge
  -- a maxval of 4,095 in all three: two bytes a sample
  pub deep : reading_of deep_input ≡ Ok (record { layout = record { w = 1; h = 1; rh = 1; rv = 1; cw = 1; ch = 1; across = plain; down = plain; sample_bytes = 2; maxval = 4095; range = Full }; y = 12; cb = 26; cr = 40 })
  -- "the high byte first": 8 and 0 are 2,048
  pub deep_sample : image_sample deep_input 0 0 0 ≡ 2048
  -- the second byte of the last sample is missing
  pub half_sample : reading_of (deep_header ++ (8 ∷ 0 ∷ deep_header) ++ (8 ∷ 0 ∷ deep_header) ++ (8 ∷ [])) ≡ Err TooLarge
  -- the second image's maxval differs, which is met before its rows are missed
  pub unequal : reading_of (deep_header ++ (8 ∷ 0 ∷ header)) ≡ Err BadHeader
  -- the first image's rows are missed before the second's maxval is looked at
  pub missed_first : reading_of (deep_header ++ (8 ∷ [])) ≡ Err TooLarge
  -- `P5 1 1 0`, newline, and `P5 1 1 65536`, newline: "a maxval outside that span"
  pub maxval_0 : reading_of (80 ∷ 53 ∷ 32 ∷ 49 ∷ 32 ∷ 49 ∷ 32 ∷ 48 ∷ 10 ∷ []) ≡ Err BadHeader
  pub maxval_65536 : reading_of (80 ∷ 53 ∷ 32 ∷ 49 ∷ 32 ∷ 49 ∷ 32 ∷ 54 ∷ 53 ∷ 53 ∷ 51 ∷ 54 ∷ 10 ∷ []) ≡ Err BadHeader
  -- `P5 1 1 65535`, newline: that maxval is taken, and the row is missing
  pub maxval_65535 : reading_of (80 ∷ 53 ∷ 32 ∷ 49 ∷ 32 ∷ 49 ∷ 32 ∷ 54 ∷ 53 ∷ 53 ∷ 51 ∷ 53 ∷ 10 ∷ 0 ∷ []) ≡ Err TooLarge

inputs : Inputs
unfolding big_of image_sample leading spaces decimal_of has_blank has_space has_digit digits_at past_spaces past_digits number_at has_magic has_number field_of field_end width_of width_end height_of height_end maxval_of maxval_end rows_at sample_bytes row_bytes image_end bad_maxval image_tests cb_at cr_at smallest ratio_for input_layout no_ratio images_tests whole_tests reading_tests reading_of first div_ceil bad_size
inputs = record { one_by_one = refl; one_more = refl; two_blanks = refl; no_row = refl; p4 = refl; width_129 = refl; width_128 = refl; comment = refl; comment_behind = refl; unended = refl; wide_before = refl; deep = refl; deep_sample = refl; half_sample = refl; unequal = refl; missed_first = refl; maxval_0 = refl; maxval_65536 = refl; maxval_65535 = refl }

-- a comment in the place of a whitespace byte, so that the theorem of Commented speaks of something: `# b` and an LF behind the second image's
-- width, with another comment, `#` and a CR, before the place
commented : (let front = header ++ (230 ∷ 80 ∷ 53 ∷ 32 ∷ 49 ∷ 35 ∷ 13 ∷ []) in let rest = 49 ∷ 32 ∷ 50 ∷ 53 ∷ 53 ∷ 10 ∷ 3 ∷ header ++ (128 ∷ []) in Commented (front ++ (32 ∷ rest)) (front ++ (35 ∷ 32 ∷ 98 ∷ 10 ∷ rest)))
unfolding leading spaces decimal_of has_blank has_space has_digit digits_at past_spaces past_digits number_at has_magic has_number field_of field_end width_of width_end height_of height_end maxval_of maxval_end rows_at sample_bytes row_bytes image_end cb_at all_space BeforeNumber InHeader
commented = record {
  front = header ++ (230 ∷ 80 ∷ 53 ∷ 32 ∷ 49 ∷ 35 ∷ 13 ∷ []);
  blank = 32;
  rest = 49 ∷ 32 ∷ 50 ∷ 53 ∷ 53 ∷ 10 ∷ 3 ∷ header ++ (128 ∷ []);
  s_is = refl;
  blank_is = refl;
  text = 32 ∷ 98 ∷ [];
  last = 10;
  t_is = refl;
  text_is = refl;
  last_is = refl;
  start = 16;
  in_header = inr (inl (inr (inl refl)));
  start_most = omega arith;
  whitespace_is = refl;
}

-- what is written
pub record Outputs : Type 0 where
  -- `P6`/`1 1`/`255`
  pub smallest_header : ppm_header 1 1 ≡ 80 ∷ 54 ∷ 10 ∷ 49 ∷ 32 ∷ 49 ∷ 10 ∷ 50 ∷ 53 ∷ 53 ∷ 10 ∷ []
  pub longest_header : ppm_header 128 8192 ≡ 80 ∷ 54 ∷ 10 ∷ 49 ∷ 50 ∷ 56 ∷ 32 ∷ 56 ∷ 49 ∷ 57 ∷ 50 ∷ 10 ∷ 50 ∷ 53 ∷ 53 ∷ 10 ∷ []
  -- `refused 2` and `refused 15`
  pub refused_2 : refusal_line 2 ≡ 114 ∷ 101 ∷ 102 ∷ 117 ∷ 115 ∷ 101 ∷ 100 ∷ 32 ∷ 50 ∷ 10 ∷ []
  pub refused_15 : refusal_line 15 ≡ 114 ∷ 101 ∷ 102 ∷ 117 ∷ 115 ∷ 101 ∷ 100 ∷ 32 ∷ 49 ∷ 53 ∷ 10 ∷ []

outputs : Outputs
unfolding ppm_header refusal_line digits_of digits
outputs = record { smallest_header = refl; longest_header = refl; refused_2 = refl; refused_15 = refl }
