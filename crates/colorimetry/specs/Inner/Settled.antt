-- One answer from two row calls' answers. Definitions only.
use Rattle.std.specs.Prelude.{Bool, false, ◌||◌, eqb, leb, Ok, Err}
use Rattle.laws.specs.declared.refusal.Refusal.{Refusal}
use Rattle.laws.specs.declared.refusal.Refusal.TheVariants.{BadState, Unlike}
use Rattle.laws.specs.Refusals.{Answer, number_of, pick_answer}

-- whether an answer is 1
abbrev pub is_state : Answer → Bool
is_state (Ok _) = false
is_state (Err why) = eqb (number_of why) 1

-- the lower of a refusal and an answer, and of two answers, by their numbers, acceptance being above every number
abbrev pub lower_than : Refusal → Answer → Answer
lower_than why (Ok _) = Err why
lower_than why (Err other) = pick_answer (leb (number_of why) (number_of other)) (Err why) (Err other)

abbrev pub lower_of : Answer → Answer → Answer
lower_of (Ok _) b = b
lower_of (Err why) b = lower_than why b

-- 1 where either is, then 22, then the lower
unfoldable pub settled : Answer → Answer → Bool → Answer
settled a b unlike = pick_answer (is_state a || is_state b) (Err BadState) (pick_answer unlike (Err Unlike) (lower_of a b))
