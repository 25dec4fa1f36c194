-- Which bytes are whitespace of a header, which begin and end its comments, and which are digits. Definitions only.
use Rattle.std.specs.Prelude.{Bool, ◌&&◌, ◌||◌, ℕ, leb, eqb}

-- "blanks, tabs, CRs or LFs"
abbrev pub is_blank : ℕ → Bool
is_blank b = (eqb b 32 || eqb b 9) || (eqb b 13 || eqb b 10)

-- "a `#` anywhere between the magic and the maxval starts a comment"
abbrev pub is_mark : ℕ → Bool
is_mark b = eqb b 35

-- "that runs through the next carriage return or newline"
abbrev pub ends_comment : ℕ → Bool
ends_comment b = eqb b 13 || eqb b 10

-- the ten digits, whose bytes are 48 to 57
abbrev pub is_digit : ℕ → Bool
is_digit b = leb 48 b && leb b 57
