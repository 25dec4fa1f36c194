-- What the functions of a blend leave on the way. Definitions only.
use Rattle.std.specs.Prelude.{◌≡◌, List, ℕ, ◌*◌, ◌≤◌, Float, length, get_or}
use Rattle.reconstruction.specs.Colour.{Colour}
use Rattle.reconstruction.specs.Fill.{pixels}
use Rattle.reconstruction.specs.Reader.{Side, side_reader, side_scratch, side_colour}
use Rattle.guided.specs.declared.state.Reader.{Reader}
use Rattle.colorimetry.specs.Mixes.{mix_of, mix_colour}

-- byte i of two rows, mixed
abbrev pub mixed_at : ℕ → List ℕ → List ℕ → ℕ → ℕ
mixed_at k first second i = mix_of k (get_or first i 0) (get_or second i 0)

-- what is left when the late row was mixed over what stood in out, a row of the colours f
pub record LateGiven (k : ℕ) (s : Side) (y : ℕ) (out : List ℕ) (r : Reader) (scratch : List Float) (out' : List ℕ) : Type 0 where
  pub leaves : r ≡ side_reader s y
  pub scratches : scratch ≡ side_scratch s y
  pub gives : (o : List ℕ) (f : ℕ → Colour) → s.reader.geometry.w * 3 ≤ length o → out ≡ pixels o 0 3 f s.reader.geometry.w
      → out' ≡ pixels o 0 3 (λ x. mix_colour k (f x) (side_colour s y x)) s.reader.geometry.w
