-- The loop's invariant is `Counting` of Numbers: the value so far, with the digits that are left behind it, makes the number as it is held.
-- That a value may be limited before its last digit is the hard step, and stands there (`counting_more`); here it remains that a digit
-- stands inside the input (`digit_inside`), so that `end` doesn't wrap and the loop ends.
use Rattle.std.proofs.Common.{◌-◌, length}
use Rattle.netpbm.proofs.Numbers.{Counting}
use Rattle.netpbm.proofs.scan.number_at.Given as goal

abbrev pub invariant-loop-value : goal.invariant-loop-value
invariant-loop-value l = Counting l.input l.at l.end l.value

abbrev pub decreases-loop-value : goal.decreases-loop-value
decreases-loop-value l = length l.input - l.end
