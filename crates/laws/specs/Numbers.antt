-- Small tests on numbers, as the tables of refusals name them. Definitions only.
use Rattle.std.specs.Prelude.{Bool, ◌||◌, ℕ, ltb}

-- x lies outside lo .. hi
abbrev pub outside_of : ℕ → ℕ → ℕ → Bool
outside_of lo hi x = ltb x lo || ltb hi x
