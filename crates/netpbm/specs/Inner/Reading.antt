-- The reading of an input as one value, which the code's result is. Definitions only.
use Rattle.std.specs.Prelude.{List, ℕ, Result, Ok, Err}
use Rattle.laws.specs.declared.refusal.Refusal.{Refusal}
use Rattle.laws.specs.Refusals.{Answer, first}
use Rattle.netpbm.specs.declared.reading.Reading.{Reading}
use Rattle.netpbm.specs.Images.{rows_at}
use Rattle.netpbm.specs.Reading.{cb_at, cr_at, input_layout, reading_tests}

-- what an input holds: the layout of its images, and where the rows of Y, Cb and Cr stand
abbrev pub input_reading : List ℕ → Reading
input_reading s = record { layout = input_layout s; y = rows_at s 0; cb = rows_at s (cb_at s); cr = rows_at s (cr_at s) }

-- what was read where the answer is accepted, and otherwise the answer's reason
abbrev pub pick_reading : Answer → Reading → Result Reading Refusal
pick_reading (Ok _) r = Ok r
pick_reading (Err why) r = Err why

-- the first reason that applies; none applies: what the input holds
unfoldable pub reading_of : List ℕ → Result Reading Refusal
reading_of s = pick_reading (first (reading_tests s)) (input_reading s)
