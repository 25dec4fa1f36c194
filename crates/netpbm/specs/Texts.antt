-- Lines as the code holds them, an array of 16 bytes (`Line::ROOM`) with a length. Definitions only.
use Rattle.std.specs.Prelude.{List, ◌++◌, ℕ, ◌-◌, length, replicate}
use Rattle.netpbm.specs.declared.lines.Line.{Line}

-- the line that holds a text of 16 bytes at most
unfoldable pub line_of : List ℕ → Line
line_of t = record { bytes = t ++ replicate (16 - length t) 0; len = length t }
