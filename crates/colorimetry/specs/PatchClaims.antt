-- What follows from the promise of `patch_mean` and is claimed beside it. Statements only.
use Rattle.std.specs.Prelude.{◌≡◌, Bool, false, List, ℕ, ◌+◌, ◌*◌, ◌≤◌, ◌<◌, T, ltb, pos, get_or, length}
use Rattle.std.specs.Float.{binary64}
use Rattle.std.specs.Float.Ieee.{of_int, round, le}
use Rattle.std.specs.Float.Ieee.Exact.{HasValue}
use Rattle.reconstruction.specs.Refusals.{first, accepted}
use Rattle.colorimetry.specs.declared.patch.Patch.TheVariants.{Nothing}
use Rattle.colorimetry.specs.Patches.{PatchReply, PatchCall, patch_call, channel_at, across_of, down_of, count_of, channel_sum, channel_mean, whole_mean, patch_tests, PatchGiven}

-- the rectangle and the picture share the pixel in row y, column x
pub record Shared (c : PatchCall) (y x : ℕ) : Type 0 where
  pub from_left_is : c.rectangle.left ≤ x
  pub before_right : x < c.rectangle.left + c.rectangle.width
  pub from_top : c.rectangle.top ≤ y
  pub before_bottom : y < c.rectangle.top + c.rectangle.height
  pub in_row : x < c.w
  pub in_column : y < c.h

-- a byte is at most 255
abbrev pub Bytes : List ℕ → Type 0
Bytes rgb = (i : ℕ) → get_or rgb i 0 ≤ 255

-- a whole number made a float is that number
abbrev pub CastExact : ℕ → Type 0
CastExact n = HasValue (of_int binary64 (pos n)) false n 1

-- the call with another buffer
abbrev pub with_rgb : PatchCall → List ℕ → PatchCall
with_rgb c rgb = patch_call c.rectangle c.w c.h rgb

abbrev pub too_short : PatchCall → Bool
too_short c = ltb (length c.rgb) (c.w * c.h * 3)

pub record PatchClaims : Type 0 where
  -- "Only shared pixels count": the sums go over these, and over all of them
  pub counted : (c : PatchCall) (j i : ℕ) → j < down_of c → i < across_of c → Shared c (c.rectangle.top + j) (c.rectangle.left + i)
  pub all_counted : (c : PatchCall) (y x : ℕ) → Shared c y x → (j : ℕ) × (i : ℕ) × (j < down_of c) × (i < across_of c) × (y ≡ c.rectangle.top + j) × (x ≡ c.rectangle.left + i)
  -- "the exact whole sum, made a float, divided once by the count": neither cast rounds, so that a mean is the fraction rounded once
  pub exact : (c : PatchCall) (k : ℕ) → Bytes c.rgb → T (accepted (first (patch_tests c))) → CastExact (channel_sum c k) × CastExact (count_of c)
  pub once : (c : PatchCall) (k : ℕ) → Bytes c.rgb → T (accepted (first (patch_tests c))) → 0 < count_of c → channel_mean c k ≡ round binary64 false (channel_sum c k) (count_of c)
  -- both means lie between the least and the greatest shared byte
  pub within : (c : PatchCall) (k lo hi : ℕ) → Bytes c.rgb → T (accepted (first (patch_tests c))) → 0 < count_of c
      → ((y x : ℕ) → Shared c y x → (lo ≤ channel_at c k y x) × (channel_at c k y x ≤ hi))
      → (T (le (of_int binary64 (pos lo)) (channel_mean c k)) × T (le (channel_mean c k) (of_int binary64 (pos hi)))) × ((lo ≤ whole_mean c k) × (whole_mean c k ≤ hi))
  -- pictures that are alike in the shared pixels give the same
  pub alike : (c : PatchCall) (rgb : List ℕ) (r s : PatchReply) → PatchGiven c r → PatchGiven (with_rgb c rgb) s → too_short c ≡ too_short (with_rgb c rgb)
      → ((k y x : ℕ) → k < 3 → Shared c y x → channel_at c k y x ≡ channel_at (with_rgb c rgb) k y x) → r ≡ s
  -- "or nothing if the rectangle and picture share no pixel", and only then
  pub nothing : (c : PatchCall) (r : PatchReply) → PatchGiven c r → T (accepted r.answer) → ((y x : ℕ) → Shared c y x → ⊥) → r.patch ≡ Nothing
  pub something : (c : PatchCall) (r : PatchReply) → PatchGiven c r → T (accepted r.answer) → r.patch ≡ Nothing → (y x : ℕ) → Shared c y x → ⊥
