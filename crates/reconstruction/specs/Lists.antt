-- 'Lists of calls': demand 3 over every list of open, seek and row.

-- "A call is accepted when its answer is no refusal. An accepted open makes its picture current"
pub use Rattle.guided.specs.Events.{RowEvent, Event, RanRow, Ran, AllRan, done, Course, next}
-- "the next accepted seek or row call still gets what the accepted calls left"
pub use Rattle.guided.specs.Events.{Shows, Handed, Premise}
-- "A row given is the first w values of each output, Cb and Cr, as an accepted row call leaves them"
pub use Rattle.guided.specs.Events.{Gives, given}
-- "within the 3 by 3 extremes", "More than two cells away is more than two across or more than two down."
pub use Rattle.guided.specs.Events.{Within, AlikeNear}
-- "Demand 3 is a single claim about the whole list"
pub use Rattle.guided.specs.Events.{Run, Demand3}
-- W14: "counts as a row call whose Cb and Cr go to the kernel instead of out", "what the guided exact fill .. gives in that row"
unfoldable pub use Rattle.rgb_rows.specs.RgbRows.{row_of, event_of}
pub use Rattle.rgb_rows.specs.RgbRows.{guided_colour, RgbRows}
