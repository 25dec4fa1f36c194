-- 'Linear' of document 01: "lerp down by the tap, then across", each tap by its axis (W2, W11), whole planes of it, and the reasons for turning the
-- call down. Definitions only.
use Rattle.std.specs.Prelude.{◌≡◌, false, cond, List, [], ◌∷◌, ◌++◌, ℕ, zero, suc, ◌*◌, ltb, length, Float}
use Rattle.laws.specs.Floats.{f32}
use Rattle.laws.specs.Lists.{put, rows}
use Rattle.laws.specs.Refusals.{Test, first, accepted, Answer}
use Rattle.image.specs.declared.layout.Layout.{Layout}
use Rattle.image.specs.Tests.{tests_for}
use Rattle.image.specs.Samples.{Plane, sample_at}
use Rattle.image.specs.Picture.{short_plane}
use Rattle.image.specs.Limits.{above}
use Rattle.image.specs.Scratch.{scratch_need}
use Rattle.fround.specs.Rounding.{round_clamped}
use Rattle.taps.specs.declared.positions.Tap.{Tap}
use Rattle.taps.specs.Taps.{lerp_of, tap_by}
use Rattle.laws.specs.declared.refusal.Refusal.TheVariants.{BadPlane, ShortScratch, ShortOutput, AboveMaxval}

-- two cells of column i lerped down by a tap
abbrev pub down_by : Tap → (ℕ → ℕ → ℕ) → ℕ → Float
down_by t c i = lerp_of (f32 (c t.i0 i)) (f32 (c t.i1 i)) t.f

-- cell i of row y, lerped down by the row's tap
unfoldable pub linear_down : Layout → (ℕ → ℕ → ℕ) → ℕ → ℕ → Float
linear_down l c y i = down_by (tap_by l.down l.rv l.ch y) c i

-- a row of cells lerped across by a tap
abbrev pub across_by : Tap → (ℕ → Float) → Float
across_by t g = lerp_of (g t.i0) (g t.i1) t.f

-- row y, column x of the cells c, where c j i is cell i of row j
unfoldable pub linear_sample : Layout → (ℕ → ℕ → ℕ) → ℕ → ℕ → Float
linear_sample l c y x = across_by (tap_by l.across l.rh l.cw x) (linear_down l c y)

-- "refusals 2, 3, 4, 5, 7, 9, 10", 18 "right after 4", ratios that aren't whole among those taken, and 17, "after 7 and before 8"; `space` and `room` are how many values scratch and output hold
unfoldable pub linear_tests : Layout → Plane → ℕ → ℕ → List Test
linear_tests l p space room = tests_for false false l ++ ((short_plane l l.cw l.ch p, BadPlane) ∷ (above l l.cw l.ch p, AboveMaxval) ∷ (ltb space (scratch_need l), ShortScratch) ∷ (ltb room (l.w * l.h), ShortOutput) ∷ [])

-- the output afterwards: w·h values row by row, "rounded and limited to 0..maxval"; the rest is as it was
unfoldable pub linear_plane : Layout → Plane → List ℕ → List ℕ
linear_plane l p out = rows out l.w l.h (λ y x. round_clamped l.maxval (linear_sample l (sample_at l.sample_bytes p) y x))

-- ---- what the papers leave free: what scratch holds after an accepted call

-- where the cells of a row lie in scratch once they are lerped down: behind two finished rows of w values
abbrev pub linear_cells_at : Layout → ℕ
linear_cells_at l = 2 * l.w

-- scratch after row y: the cells lerped down, at linear_cells_at, and the finished row that they give, at `at`
unfoldable pub linear_row : Layout → Plane → ℕ → ℕ → List Float → List Float
linear_row l p at y s =
    put (put s (linear_cells_at l) l.cw (linear_down l (sample_at l.sample_bytes p) y))
    at l.w (linear_sample l (sample_at l.sample_bytes p) y)

-- scratch after the first n rows of a plane, each at 0
unfoldable pub linear_scratch : Layout → Plane → ℕ → List Float → List Float
linear_scratch l p zero s = s
linear_scratch l p (suc n) s = linear_row l p 0 n (linear_scratch l p n s)

-- what `linear_plane` promises: of its answer, and of scratch and output after it
pub record LinearGiven (l : Layout) (p : Plane) (scratch : List Float) (out : List ℕ) (answer : Answer) (scratch' : List Float) (out' : List ℕ) : Type 0 where
  pub answers : answer ≡ first (linear_tests l p (length scratch) (length out))
  pub leaves : out' ≡ cond (accepted answer) (linear_plane l p out) out
  pub scratches : scratch' ≡ cond (accepted answer) (linear_scratch l p l.h scratch) scratch
