-- W8, 'Strip patches': the mean colour of a rectangle of an RGB picture. Definitions only.
use Rattle.std.specs.Prelude.{◌≡◌, Bool, true, false, ◌||◌, ◌&&◌, cond, List, [], ◌∷◌, ℕ, ◌+◌, ◌-◌, ◌*◌, min, ltb, get_or, length, pos, Float, Result, Ok, Err}
use Rattle.std.specs.Float.{binary64}
use Rattle.std.specs.Float.Ieee.{of_int, div}
use Rattle.laws.specs.Numbers.{outside_of}
use Rattle.laws.specs.Rounding.{half_up}
use Rattle.laws.specs.Sums.{sum_to}
use Rattle.reconstruction.specs.Geometry.{Rectangle}
use Rattle.laws.specs.declared.refusal.Refusal.{Refusal}
use Rattle.reconstruction.specs.Refusals.{Answer, Test, first, accepted}
use Rattle.colorimetry.specs.declared.patch.Patch.{Patch}
use Rattle.colorimetry.specs.declared.patch.Patch.TheVariants.{Mean, Nothing}
use Rattle.colorimetry.specs.declared.patch.Patched.{Patched}
use Rattle.laws.specs.declared.refusal.Refusal.TheVariants.{BadSize, ShortOutput, BadRectangle}

-- "a rectangle (left, top, width, height in pixels) and a picture of RGB rows"
pub record PatchCall : Type 0 where
  pub rectangle : Rectangle
  pub w : ℕ
  pub h : ℕ
  pub rgb : List ℕ

abbrev pub patch_call : Rectangle → ℕ → ℕ → List ℕ → PatchCall
patch_call rectangle w h rgb = record { rectangle = rectangle; w = w; h = h; rgb = rgb }

-- "three bytes a pixel": channel k (red, green, blue) of the pixel in row y, column x
unfoldable pub channel_at : PatchCall → ℕ → ℕ → ℕ → ℕ
channel_at c k y x = get_or c.rgb (3 * (y * c.w + x) + k) 0

-- ---- the shared pixels

-- of the `len` columns, or rows, from `start` on those that lie before `side`: how many
unfoldable pub shared_of : ℕ → ℕ → ℕ → ℕ
shared_of start len side = min (start + len) side - start

abbrev pub across_of : PatchCall → ℕ
across_of c = shared_of c.rectangle.left c.rectangle.width c.w

abbrev pub down_of : PatchCall → ℕ
down_of c = shared_of c.rectangle.top c.rectangle.height c.h

-- "Only shared pixels count."
abbrev pub count_of : PatchCall → ℕ
count_of c = across_of c * down_of c

unfoldable pub channel_sum : PatchCall → ℕ → ℕ
channel_sum c k = sum_to (down_of c) (λ j. sum_to (across_of c) (λ i. channel_at c k (c.rectangle.top + j) (c.rectangle.left + i)))

-- ---- the means

-- "Each mean is the exact whole sum, made a float, divided once by the count."
unfoldable pub mean_of : ℕ → ℕ → Float
mean_of sum count = div binary64 (of_int binary64 (pos sum)) (of_int binary64 (pos count))

abbrev pub channel_mean : PatchCall → ℕ → Float
channel_mean c k = mean_of (channel_sum c k) (count_of c)

-- "A whole-number mean, halves up"
abbrev pub whole_mean : PatchCall → ℕ → ℕ
whole_mean c k = half_up (channel_sum c k) (count_of c)

-- ---- the refusals

-- 2: "Picture sides keep refusal 2": "width or height 0 or over 8,192"
unfoldable pub bad_sides : ℕ → ℕ → Bool
bad_sides w h = outside_of 1 8192 w || outside_of 1 8192 h

-- 19: "A rectangle whose end passes 65,535", across or down
unfoldable pub passes : ℕ → ℕ → Bool
passes start len = ltb 65535 (start + len)

unfoldable pub passes_end : Rectangle → Bool
passes_end r = passes r.left r.width || passes r.top r.height

-- "refusal 2, looked at first"; 19, "checked before the RGB buffer's length, which keeps 10"
unfoldable pub patch_tests : PatchCall → List Test
patch_tests c = (bad_sides c.w c.h, BadSize) ∷ (passes_end c.rectangle, BadRectangle) ∷ (ltb (length c.rgb) (c.w * c.h * 3), ShortOutput) ∷ []

-- ---- the promise

-- the call was accepted and some pixel is shared
unfoldable pub has_mean : PatchCall → Bool
has_mean c = accepted (first (patch_tests c)) && ltb 0 (count_of c)

abbrev pub pick_patch : Bool → Patch → Patch → Patch
pick_patch true a b = a
pick_patch false a b = b

-- what `patch_mean` answers, and what it gives: where it is refused, as where it gives nothing, zeros
pub record PatchReply : Type 0 where
  pub answer : Answer
  pub patch : Patch
  pub whole : List ℕ
  pub pixels : ℕ

abbrev pub patch_reply : Result Patched Refusal → PatchReply
patch_reply (Ok p) = record { answer = Ok tt; patch = p.patch; whole = p.whole; pixels = p.pixels }
patch_reply (Err why) = record { answer = Err why; patch = Nothing; whole = 0 ∷ 0 ∷ 0 ∷ []; pixels = 0 }

-- "The answer is the patch's mean, three f64 values, or nothing if the rectangle and picture share no pixel."
-- "A whole-number mean, halves up, is given beside it, zeros beside nothing." A refused call gives nothing too.
pub record PatchGiven (c : PatchCall) (r : PatchReply) : Type 0 where
  pub answers : r.answer ≡ first (patch_tests c)
  pub mean : r.patch ≡ pick_patch (has_mean c) (Mean (channel_mean c 0) (channel_mean c 1) (channel_mean c 2)) Nothing
  pub wholes : r.whole ≡ cond (has_mean c) (whole_mean c 0 ∷ whole_mean c 1 ∷ whole_mean c 2 ∷ []) (0 ∷ 0 ∷ 0 ∷ [])
  pub count : r.pixels ≡ cond (has_mean c) (count_of c) 0
