-- 'Triangular' of document 01: a whole chroma plane in whole numbers, and the reasons for turning the call down. Definitions only.
use Rattle.std.specs.Prelude.{◌≡◌, Bool, false, ◌&&◌, ◌||◌, not, cond, List, [], ◌∷◌, ◌++◌, ℕ, ◌+◌, ◌*◌, ◌/◌, ltb, leb, eqb, length}
use Rattle.laws.specs.Refusals.{Answer, Test, first, accepted}
use Rattle.laws.specs.Lists.{rows}
use Rattle.image.specs.declared.layout.Layout.{Layout}
use Rattle.image.specs.Tests.{bad_siting, layout_tests}
use Rattle.image.specs.Samples.{Plane, sample_at}
use Rattle.image.specs.Picture.{short_plane}
use Rattle.image.specs.Limits.{above}
use Rattle.upsample.specs.Weights.{even, weighed, one_axis}
use Rattle.laws.specs.declared.refusal.Refusal.TheVariants.{NoTriangular, BadPlane, ShortOutput, NotCentred, AboveMaxval}

-- "Both axes: vertical sums 3·near + far, then the same across with b = 8 and 7 and >> 4"; c j i is cell i of row j
unfoldable pub both_axes : ℕ → ℕ → (ℕ → ℕ → ℕ) → ℕ → ℕ → ℕ
both_axes cw ch c y x = (weighed cw (λ i. weighed ch (λ j. c j i) y) x + cond (even x) 8 7) / 16

-- the sample of row y, column x, by the ratios: (2,1), (1,2), and otherwise (2,2)
unfoldable pub triangular_sample : Layout → (ℕ → ℕ → ℕ) → ℕ → ℕ → ℕ
triangular_sample l c y x =
    cond (eqb l.rv 1) (one_axis l.cw (c y) x)
    (cond (eqb l.rh 1) (one_axis l.ch (λ j. c j x) y)
    (both_axes l.cw l.ch c y x))

-- whether the ratios are rh across and rv down
abbrev pub ratios : Layout → ℕ → ℕ → Bool
ratios l rh rv = eqb l.rh rh && eqb l.rv rv

-- 6: "triangular with ratios not (2,1), (1,2), (2,2), or rh 2 and cw at most 2"
unfoldable pub bad_triangular : Layout → Bool
bad_triangular l = not (ratios l 2 1 || (ratios l 1 2 || ratios l 2 2)) || (eqb l.rh 2 && leb l.cw 2)

-- "Refusals 2, 3, 4, 5, 6, 7, 10, lowest first", 18 "right after 4" and 16 "looked at right after 6", and 17, "after 7 and before 8"; `room` is how many values the output holds
unfoldable pub triangular_tests : Layout → Plane → ℕ → List Test
triangular_tests l p room = layout_tests false l ++ ((bad_triangular l, NoTriangular) ∷ (bad_siting l, NotCentred) ∷ (short_plane l l.cw l.ch p, BadPlane) ∷ (above l l.cw l.ch p, AboveMaxval) ∷ (ltb room (l.w * l.h), ShortOutput) ∷ [])

-- the output afterwards: the first w·h values are the plane's, row by row, the rest is as it was; all of it is, where the call was refused
unfoldable pub triangular_plane : Layout → Plane → List ℕ → List ℕ
triangular_plane l p out = rows out l.w l.h (triangular_sample l (sample_at l.sample_bytes p))

-- what `triangular_plane` promises: of its answer, and of the output after it
pub record TriangularGiven (l : Layout) (p : Plane) (before : List ℕ) (answer : Answer) (after : List ℕ) : Type 0 where
  pub answers : answer ≡ first (triangular_tests l p (length before))
  pub leaves : after ≡ cond (accepted answer) (triangular_plane l p before) before
