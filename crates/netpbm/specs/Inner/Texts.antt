-- How a line grows byte by byte. Definitions only.
use Rattle.std.specs.Prelude.{◌≡◌, List, [], ◌∷◌, ℕ, ◌+◌, length, set}
use Rattle.netpbm.specs.declared.lines.Line.{Line}

-- a line with one byte more
unfoldable pub pushed : Line → ℕ → Line
pushed l b = record { bytes = set l.bytes l.len b; len = l.len + 1 }

-- a line with the bytes of a text pushed one after another
unfoldable pub written : Line → List ℕ → Line
written l [] = l
written l (b ∷ bs) = written (pushed l b) bs

-- what putting a text behind a line gives: its bytes pushed one after another, and how long the line is then, so that callers can count room
pub record Put (l : Line) (t : List ℕ) (r : Line) : Type 0 where
  pub is : r ≡ written l t
  pub len : r.len ≡ l.len + length t
