-- Mixes by a weight of sixteenths. Definitions only.
use Rattle.std.specs.Prelude.{ℕ, ◌+◌, ◌-◌, ◌*◌, ◌/◌}
use Rattle.reconstruction.specs.Colour.{Colour}

-- "the mix is floor(((16−k)·first + k·second + 8)/16)"
unfoldable pub mix_of : ℕ → ℕ → ℕ → ℕ
mix_of k first second = ((16 - k) * first + k * second + 8) / 16

-- "Each RGB byte is floor(((16−k)·early + k·late + 8)/16)"
unfoldable pub mix_colour : ℕ → Colour → Colour → Colour
mix_colour k early late = record { red = mix_of k early.red late.red; green = mix_of k early.green late.green; blue = mix_of k early.blue late.blue }
