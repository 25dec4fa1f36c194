-- 'Reasons for turning a call down': the tests of a call in the order of document 01's table, each with its reason. Definitions only.
use Rattle.std.specs.Prelude.{◌≡◌, ◌⊎◌, ℕ, ◌*◌, ◌<◌, ◌≤◌, Bool, true, false, cond, List, [], ◌∷◌, T, eqb, Result, Ok, Err}
use Rattle.laws.specs.declared.refusal.Refusal.{Refusal}
use Rattle.laws.specs.declared.refusal.Refusal.TheVariants.{BadState, BadSize, BadRatio, BadSamples, BadChroma, NoTriangular, BadPlane, BadPixelSize, ShortScratch, ShortOutput, BadRow, RowPassed, BadPixel, BadHeader, TooLarge, NotCentred, AboveMaxval, BadRange, BadRectangle, BadChart, OtherChange, Unlike}

-- what a call answers that gives nothing besides: accepted, or turned down for a reason
abbrev pub Answer : Type 0
Answer = Result Unit Refusal

-- "No.", the number of a reason in document 01's table, and from 16 on in document 02
abbrev pub number_of : Refusal → ℕ
number_of BadState = 1
number_of BadSize = 2
number_of BadRatio = 3
number_of BadSamples = 4
number_of BadChroma = 5
number_of NoTriangular = 6
number_of BadPlane = 7
number_of BadPixelSize = 8
number_of ShortScratch = 9
number_of ShortOutput = 10
number_of BadRow = 11
number_of RowPassed = 12
number_of BadPixel = 13
number_of BadHeader = 14
number_of TooLarge = 15
number_of NotCentred = 16
number_of AboveMaxval = 17
number_of BadRange = 18
number_of BadRectangle = 19
number_of BadChart = 20
number_of OtherChange = 21
number_of Unlike = 22

-- one row of the table: whether it applies, and its reason
abbrev pub Test : Type 0
Test = Bool × Refusal

-- what the answer's cases are in document 01: whether the call was accepted
abbrev pub accepted : Answer → Bool
accepted (Ok _) = true
accepted (Err why) = false

abbrev pub pick_answer : Bool → Answer → Answer → Answer
pick_answer true a b = a
pick_answer false a b = b

-- the reason of the first test that applies; none applies: accepted
unfoldable pub first : List Test → Answer
first [] = Ok tt
first (t ∷ ts) = pick_answer t.0 (Err t.1) (first ts)

-- the place of a number in the table: ten apart, since requests put their numbers between. 16 is "looked at right after 6", 17 "after 7 and before 8", 18 comes "right after 4", 19 "checked before the RGB buffer's length, which keeps 10", 20 comes "before anything else is looked at", 21 "after all others" and 22 "right after the two states are checked"
unfoldable pub place_of : ℕ → ℕ
place_of n = cond (eqb n 16) 65 (cond (eqb n 17) 75 (cond (eqb n 18) 45 (cond (eqb n 19) 95 (cond (eqb n 20) 5 (cond (eqb n 21) 1000 (cond (eqb n 22) 15 (10 * n)))))))

-- the list stands in the table's order: every place is greater than those before it and than `least`, so that the first test that applies is the lowest
unfoldable pub Ascending : ℕ → List Test → Type 0
Ascending least [] = Unit {0}
Ascending least (t ∷ ts) = (least < place_of (number_of t.1)) × Ascending (place_of (number_of t.1)) ts

-- some test of the list with the number n applies
unfoldable pub Applies : ℕ → List Test → Type 0
Applies n [] = ⊥
Applies n (t ∷ ts) = (T t.0 × (number_of t.1 ≡ n)) ⊎ Applies n ts

-- "The lowest number that applies is given, and only then": lowest by its place in the table
pub record Lowest (ts : List Test) (answer : Answer) : Type 0 where
  pub applies : (why : Refusal) → answer ≡ Err why → Applies (number_of why) ts
  pub least : (why : Refusal) (m : ℕ) → answer ≡ Err why → Applies m ts → place_of (number_of why) ≤ place_of m
  pub none : (m : ℕ) → answer ≡ Ok tt → Applies m ts → ⊥
