-- "The lowest number that applies is given, and only then": the list of `triangular_plane` stands in the table's order, so its answer is the lowest.
use Rattle.std.proofs.Common.{List, ℕ, arith, length}
use Rattle.laws.specs.Refusals.{Answer, place_of, Ascending, Lowest}
use Rattle.laws.proofs.Refusals.{given_lowest}
use Rattle.image.specs.declared.layout.Layout.{Layout}
use Rattle.image.specs.Samples.{Plane}
use Rattle.image.specs.Tests.{tests_for}
use Rattle.upsample.specs.Triangular.{triangular_tests, TriangularGiven}

pub triangular_ascends : (l : Layout) (p : Plane) (room : ℕ) → Ascending 0 (triangular_tests l p room)
unfolding place_of Ascending tests_for triangular_tests
triangular_ascends l p room = (omega arith, (omega arith, (omega arith, (omega arith, (omega arith, (omega arith, (omega arith, (omega arith, (omega arith, (omega arith, tt))))))))))

pub triangular_lowest : (l : Layout) (p : Plane) (before : List ℕ) (answer : Answer) (after : List ℕ)
    → TriangularGiven l p before answer after → Lowest (triangular_tests l p (length before)) answer
triangular_lowest l p before answer after g = given_lowest (triangular_tests l p (length before)) answer (triangular_ascends l p (length before)) g.answers
