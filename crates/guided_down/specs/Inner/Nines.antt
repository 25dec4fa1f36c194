-- The least and the greatest of nine samples, three from each of three rows, in whole numbers. Definitions only.
use Rattle.std.specs.Prelude.{List, ℕ, ◌+◌, ◌*◌, min, max}
use Rattle.image.specs.Samples.{sample_of}
use Rattle.guided_window.specs.declared.buffers.Window.{Window}
use Rattle.guided_down.specs.declared.picks.Pick.{Pick}
use Rattle.guided_down.specs.declared.picks.Pick.TheVariants.{Smaller, Greater}

-- the greater or the smaller of two whole numbers
abbrev pub whole_op : Pick → ℕ → ℕ → ℕ
whole_op Greater = max
whole_op Smaller = min

-- the extreme of three samples of a row, the first of which begins at `at`
unfoldable pub three_from : Pick → ℕ → List ℕ → ℕ → ℕ
three_from pick bytes plane at = whole_op pick (whole_op pick (sample_of bytes plane at) (sample_of bytes plane (at + bytes))) (sample_of bytes plane (at + 2 * bytes))

-- the extreme of nine samples, three from each of a window's places on
unfoldable pub nine_from : Pick → ℕ → List ℕ → Window → ℕ
nine_from pick bytes plane t = whole_op pick (whole_op pick (three_from pick bytes plane t.up) (three_from pick bytes plane t.at)) (three_from pick bytes plane t.down)
