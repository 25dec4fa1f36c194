-- 'Bench cases' of document 01: those with a star, in its order. Definitions only.
use Rattle.std.specs.Prelude.{◌≡◌, Bool, true, false, List, [], ◌∷◌, map, ℕ, ◌+◌, ◌*◌, ◌/◌, ◌%◌, get_or, Float}
use Rattle.std.specs.Float.{nan, binary32}
use Rattle.std.specs.Float.Ieee.{of_bits}
use Rattle.laws.specs.Axes.{plain}
use Rattle.laws.specs.Floats.{f32}
use Rattle.laws.specs.Lists.{table}
use Rattle.image.specs.declared.layout.Layout.{Layout}
use Rattle.image.specs.declared.layout.Range.TheVariants.{Full}
use Rattle.fround.specs.Rounding.{round_clamped}
use Rattle.upsample.specs.Triangular.{triangular_sample}
use Rattle.taps.specs.declared.phases.Phase.{Phase}
use Rattle.linear.specs.Linear.{linear_sample}
use Rattle.taps.specs.Taps.{phases_of}
use Rattle.kernels.specs.Kernels.{Colour, fixed255}
use Rattle.kernels.specs.Pixels.{exact_colour}

pub data Case : Type 0 where
  -- a float, the limit, and what it rounds to
  Rounds : Float → ℕ → ℕ → Case
  -- maxval, whole Y, Cb and Cr, and the colour by the exact kernel; by the fixed kernel
  Exact : ℕ → ℕ → ℕ → ℕ → Colour → Case
  Fixed : ℕ → ℕ → ℕ → Colour → Case
  -- a layout, the cells of its one row, and the picture row that linear gives
  Linear : Layout → List ℕ → List ℕ → Case
  -- a layout, the cells row by row, and the picture's rows that triangular gives, row by row
  Triangular : Layout → List ℕ → List ℕ → Case
  -- a ratio, and its four phases
  Phases : ℕ → List Phase → Case

-- cell i of row j of a list of samples, row by row, n to a row
abbrev cells_of : ℕ → List ℕ → ℕ → ℕ → ℕ
cells_of n cs j i = get_or cs (j * n + i) 0

unfoldable pub Holds : Case → Type 0
Holds (Rounds x limit n) = round_clamped limit x ≡ n
Holds (Exact d y cb cr c) = exact_colour d y (256 * cb) (256 * cr) ≡ c
Holds (Fixed y cb cr c) = fixed255 y cb cr ≡ c
Holds (Linear l cs row) = table l.w (linear_sample l (cells_of l.cw cs) 0) ≡ map f32 row
Holds (Triangular l cs out) = table (l.w * l.h) (λ k. triangular_sample l (cells_of l.cw cs) (k / l.w) (k % l.w)) ≡ out
Holds (Phases r ps) = phases_of r ≡ ps

-- a layout of one-byte samples, centred
abbrev sizes : ℕ → ℕ → ℕ → ℕ → ℕ → ℕ → Layout
sizes w h rh rv cw ch = record { w = w; h = h; rh = rh; rv = rv; cw = cw; ch = ch; across = plain; down = plain; sample_bytes = 1; maxval = 255; range = Full }

abbrev rgb : ℕ → ℕ → ℕ → Colour
rgb r g b = record { red = r; green = g; blue = b }

-- a float by its bits, so that no division stands in for the one that is under test
abbrev bits : ℕ → Float
bits n = of_bits binary32 n

abbrev from : Bool → Float → Phase
from left f = record { left = left; f = f }

unfoldable pub starred : List Case
starred =
    -- "0.5, 1.5, 2.5 round to 1, 2, 3.": 3f000000, 3fc00000 and 40200000
    Rounds (bits 1056964608) 255 1
    ∷ Rounds (bits 1069547520) 255 2
    ∷ Rounds (bits 1075838976) 255 3
    -- "Not-a-number gives 0."
    ∷ Rounds nan 255 0
    -- "300 limited to 255 gives 255."
    ∷ Rounds (f32 300) 255 255
    -- "Exact (230,3,128) = 230,255,9."
    ∷ Exact 255 230 3 128 (rgb 230 255 9)
    -- "Fixed, same: 230,255,8."
    ∷ Fixed 230 3 128 (rgb 230 255 8)
    -- "Exact (10,253,128) = 10,0,232."
    ∷ Exact 255 10 253 128 (rgb 10 0 232)
    -- "Maxval 4,095, (2048,2048,2048) = 128,128,128."
    ∷ Exact 4095 2048 2048 2048 (rgb 128 128 128)
    -- "Linear, ratio 2, chroma 0,100: 0,25,75,100."
    ∷ Linear (sizes 4 1 2 1 2 1) (0 ∷ 100 ∷ []) (0 ∷ 25 ∷ 75 ∷ 100 ∷ [])
    -- "Triangular (2,1), 0,100,200: 0,25,75,125,175,200."
    ∷ Triangular (sizes 6 1 2 1 3 1) (0 ∷ 100 ∷ 200 ∷ []) (0 ∷ 25 ∷ 75 ∷ 125 ∷ 175 ∷ 200 ∷ [])
    -- "Triangular (1,2), column 0,2: 0,1,1,2."
    ∷ Triangular (sizes 1 4 1 2 1 2) (0 ∷ 2 ∷ []) (0 ∷ 1 ∷ 1 ∷ 2 ∷ [])
    -- "Phases of ratio 4: 5/8, 7/8 from the left, 1/8, 3/8.": 3f200000, 3f600000, 3e000000 and 3ec00000
    ∷ Phases 4 (from true (bits 1059061760) ∷ from true (bits 1063256064) ∷ from false (bits 1040187392) ∷ from false (bits 1052770304) ∷ [])
    ∷ []

-- every case of a list holds
pub data AllHold : List Case → Type 0 where
  none : AllHold []
  also : (c : Case) (cs : List Case) → Holds c → AllHold cs → AllHold (c ∷ cs)
