-- "The lowest number that applies is given, and only then": the list of `rgb_row` stands in the table's order, so its answer is the lowest.
use Rattle.std.proofs.Common.{List, ℕ, arith, Float}
use Rattle.laws.specs.Refusals.{place_of, Ascending, Lowest}
use Rattle.laws.proofs.Refusals.{given_lowest}
use Rattle.guided.specs.Calls.{Reply}
use Rattle.rgb_rows.specs.RgbRows.{RgbRowCall, rgb_row_tests, RgbRowGiven}

pub rgb_row_ascends : (c : RgbRowCall) → Ascending 0 (rgb_row_tests c)
unfolding place_of Ascending rgb_row_tests
rgb_row_ascends c = (omega arith, (omega arith, (omega arith, (omega arith, (omega arith, (omega arith, tt))))))

pub rgb_row_lowest : (c : RgbRowCall) (r : Reply) (s : List Float) (out : List ℕ) → RgbRowGiven c r s out → Lowest (rgb_row_tests c) r.answer
rgb_row_lowest c r s out g = given_lowest (rgb_row_tests c) r.answer (rgb_row_ascends c) g.answers
