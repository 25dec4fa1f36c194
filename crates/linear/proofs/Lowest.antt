-- "The lowest number that applies is given, and only then": the list of `linear_plane` stands in the table's order, so its answer is the lowest.
use Rattle.std.proofs.Common.{List, ℕ, arith, length, Float}
use Rattle.laws.specs.Refusals.{Answer, place_of, Ascending, Lowest}
use Rattle.laws.proofs.Refusals.{given_lowest}
use Rattle.image.specs.declared.layout.Layout.{Layout}
use Rattle.image.specs.Samples.{Plane}
use Rattle.image.specs.Tests.{tests_for}
use Rattle.linear.specs.Linear.{linear_tests, LinearGiven}

pub linear_ascends : (l : Layout) (p : Plane) (space room : ℕ) → Ascending 0 (linear_tests l p space room)
unfolding place_of Ascending tests_for linear_tests
linear_ascends l p space room = (omega arith, (omega arith, (omega arith, (omega arith, (omega arith, (omega arith, (omega arith, (omega arith, (omega arith, tt)))))))))

pub linear_lowest : (l : Layout) (p : Plane) (scratch : List Float) (out : List ℕ) (answer : Answer) (scratch' : List Float) (out' : List ℕ)
    → LinearGiven l p scratch out answer scratch' out' → Lowest (linear_tests l p (length scratch) (length out)) answer
linear_lowest l p scratch out answer scratch' out' g = given_lowest (linear_tests l p (length scratch) (length out)) answer (linear_ascends l p (length scratch) (length out)) g.answers
