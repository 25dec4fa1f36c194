-- "The lowest number that applies is given, and only then": the lists of open, seek and row stand in the table's order, so their answers are the lowest.
use Rattle.std.proofs.Common.{List, arith, Float}
use Rattle.laws.specs.Refusals.{place_of, Ascending, Lowest}
use Rattle.laws.proofs.Refusals.{given_lowest}
use Rattle.image.specs.Tests.{tests_for}
use Rattle.guided.specs.Calls.{Reply, OpenCall, SeekCall, RowCall, open_tests, seek_tests, row_tests, OpenGiven, SeekGiven, RowGiven}

pub open_ascends : (o : OpenCall) → Ascending 0 (open_tests o)
unfolding place_of Ascending tests_for open_tests
open_ascends o = (omega arith, (omega arith, (omega arith, (omega arith, (omega arith, (omega arith, (omega arith, (omega arith, (omega arith, tt)))))))))

pub open_lowest : (o : OpenCall) (r : Reply) → OpenGiven o r → Lowest (open_tests o) r.answer
open_lowest o r g = given_lowest (open_tests o) r.answer (open_ascends o) g.answers

pub seek_ascends : (k : SeekCall) → Ascending 0 (seek_tests k)
unfolding place_of Ascending seek_tests
seek_ascends k = (omega arith, (omega arith, tt))

pub seek_lowest : (k : SeekCall) (r : Reply) → SeekGiven k r → Lowest (seek_tests k) r.answer
seek_lowest k r g = given_lowest (seek_tests k) r.answer (seek_ascends k) g.answers

pub row_ascends : (k : RowCall) → Ascending 0 (row_tests k)
unfolding place_of Ascending row_tests
row_ascends k = (omega arith, (omega arith, (omega arith, (omega arith, (omega arith, (omega arith, tt))))))

pub row_lowest : (k : RowCall) (r : Reply) (scratch out_cb out_cr : List Float) → RowGiven k r scratch out_cb out_cr → Lowest (row_tests k) r.answer
row_lowest k r scratch out_cb out_cr g = given_lowest (row_tests k) r.answer (row_ascends k) g.answers
