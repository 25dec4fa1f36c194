-- Planes as `fill` is lent them, all three parts of one slice, and what it is to turn the bytes of their samples. Definitions only.
use Rattle.std.specs.Prelude.{◌≡◌, cond, List, ℕ, ◌+◌, ◌-◌, ◌*◌, ◌≤◌, ◌<◌, length, get_or, drop, Float}
use Rattle.laws.specs.Refusals.{first}
use Rattle.image.specs.Picture.{Picture, picture_of, Planes}
use Rattle.netpbm.specs.declared.reading.Reading.{Reading}
use Rattle.picture.specs.Picture.{Outcome, lent_tests, pick_outcome, is_written, ppm_length, ppm_over, scratch_after}

-- the three planes that were read, from their places on, one row right behind the other
abbrev pub planes_from : List ℕ → Reading → Planes
planes_from s r = record {
  y = record { bytes = drop r.y s; stride = r.layout.w * r.layout.sample_bytes };
  cb = record { bytes = drop r.cb s; stride = r.layout.cw * r.layout.sample_bytes };
  cr = record { bytes = drop r.cr s; stride = r.layout.cw * r.layout.sample_bytes };
}

abbrev pub picture_from : List ℕ → Reading → Picture
picture_from s r = picture_of r.layout (planes_from s r)

-- n samples of b bytes from `at` on have in s the bytes that they have in the input, in the other order
pub record Reversed (b n at : ℕ) (input s : List ℕ) : Type 0 where
  pub byte : (i t : ℕ) → i < n → t < b → get_or s (at + (i * b + t)) 0 ≡ get_or input (at + (i * b + (b - 1 - t))) 0

-- and nothing else of `s`, which becomes `t`, is touched
pub record Turned (b n at : ℕ) (input s t : List ℕ) : Type 0 where
  pub len : length t ≡ length s
  pub turns : Reversed b n at input t
  pub before : (k : ℕ) → k < at → get_or t k 0 ≡ get_or s k 0
  pub behind : (k : ℕ) → at + n * b ≤ k → get_or t k 0 ≡ get_or s k 0

-- the samples of the three planes have
pub record PlanesTurned (r : Reading) (input s : List ℕ) : Type 0 where
  pub y_turned : Reversed r.layout.sample_bytes (r.layout.w * r.layout.h) r.y input s
  pub cb_turned : Reversed r.layout.sample_bytes (r.layout.cw * r.layout.ch) r.cb input s
  pub cr_turned : Reversed r.layout.sample_bytes (r.layout.cw * r.layout.ch) r.cr input s

-- what is promised of a picture that was read, wherever its planes lie: `PictureGiven` behind the reading
pub record PpmGiven (p : Picture) (scratch : List Float) (out : List ℕ) (outcome : Outcome) (scratch' : List Float) (out' : List ℕ) : Type 0 where
  pub answers : outcome ≡ pick_outcome (first (lent_tests p scratch out)) (ppm_length p.layout)
  pub gives : out' ≡ cond (is_written outcome) (ppm_over p out) out
  pub scratches : scratch' ≡ cond (is_written outcome) (scratch_after p scratch) scratch
