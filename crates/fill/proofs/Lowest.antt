-- "The lowest number that applies is given, and only then": the lists of `fill` and `refill` stand in the table's order, so their answers are the lowest.
use Rattle.std.proofs.Common.{List, ℕ, arith, Float}
use Rattle.laws.specs.Refusals.{Answer, place_of, Ascending, Lowest}
use Rattle.laws.proofs.Refusals.{given_lowest}
use Rattle.image.specs.Tests.{tests_for}
use Rattle.fill.specs.Tests.{FillCall, fill_tests}
use Rattle.fill.specs.Fill.{FillGiven}
use Rattle.fill.specs.Refill.{RefillCall, refill_tests, RefillGiven}

pub fill_ascends : (c : FillCall) → Ascending 0 (fill_tests c)
unfolding place_of Ascending tests_for fill_tests
fill_ascends c = (omega arith, (omega arith, (omega arith, (omega arith, (omega arith, (omega arith, (omega arith, (omega arith, (omega arith, (omega arith, (omega arith, tt)))))))))))

pub fill_lowest : (c : FillCall) (answer : Answer) (scratch' : List Float) (out' : List ℕ) → FillGiven c answer scratch' out' → Lowest (fill_tests c) answer
fill_lowest c answer scratch' out' g = given_lowest (fill_tests c) answer (fill_ascends c) g.answers

pub refill_ascends : (c : RefillCall) → Ascending 0 (refill_tests c)
unfolding place_of Ascending tests_for refill_tests
refill_ascends c = (omega arith, (omega arith, (omega arith, (omega arith, (omega arith, (omega arith, (omega arith, (omega arith, (omega arith, (omega arith, (omega arith, (omega arith, (omega arith, tt)))))))))))))

pub refill_lowest : (c : RefillCall) (answer : Answer) (scratch' : List Float) (out' : List ℕ) → RefillGiven c answer scratch' out' → Lowest (refill_tests c) answer
refill_lowest c answer scratch' out' g = given_lowest (refill_tests c) answer (refill_ascends c) g.answers
