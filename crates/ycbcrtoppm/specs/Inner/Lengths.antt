-- How much of out the program hands to standard output. Definitions only.
use Rattle.std.specs.Prelude.{ℕ, Ok, Err}
use Rattle.picture.specs.Picture.{Outcome}

-- all bytes of the picture; on refusal none, since the line that is written then doesn't stand in out
abbrev pub written_length : Outcome → ℕ
written_length (Ok n) = n
written_length (Err why) = 0
