-- "The lowest number that applies is given, and only then": the list of `guided_plane` stands in the table's order, so its answer is the lowest.
use Rattle.std.proofs.Common.{List, ℕ, arith, length, Float}
use Rattle.laws.specs.Refusals.{Answer, place_of, Ascending, Lowest}
use Rattle.laws.proofs.Refusals.{given_lowest}
use Rattle.image.specs.declared.layout.Layout.{Layout}
use Rattle.image.specs.Samples.{Plane}
use Rattle.image.specs.Tests.{tests_for}
use Rattle.guided_plane.specs.Plane.{guided_tests, GuidedGiven}

pub guided_ascends : (l : Layout) (y c : Plane) (space room : ℕ) → Ascending 0 (guided_tests l y c space room)
unfolding place_of Ascending tests_for guided_tests
guided_ascends l y c space room = (omega arith, (omega arith, (omega arith, (omega arith, (omega arith, (omega arith, (omega arith, (omega arith, (omega arith, (omega arith, tt))))))))))

pub guided_lowest : (l : Layout) (y c : Plane) (scratch : List Float) (out : List ℕ) (answer : Answer) (scratch' : List Float) (out' : List ℕ)
    → GuidedGiven l y c scratch out answer scratch' out' → Lowest (guided_tests l y c (length scratch) (length out)) answer
guided_lowest l y c scratch out answer scratch' out' g = given_lowest (guided_tests l y c (length scratch) (length out)) answer (guided_ascends l y c (length scratch) (length out)) g.answers
