-- What follows from the promise of `chart_reading` and is claimed beside it. Statements only.
use Rattle.std.specs.Prelude.{◌≡◌, ◌⊎◌, ℕ, ◌+◌, ◌≤◌, ◌<◌, min, max, T, None, Some}
use Rattle.reconstruction.specs.Refusals.{accepted}
use Rattle.colorimetry.specs.declared.patch.Patch.TheVariants as P
use Rattle.colorimetry.specs.Patches.{PatchReply, PatchGiven}
use Rattle.colorimetry.specs.Charts.{ChartReply, ChartCall, shades_of, shade_off, mix_off, first_least, whole_colour, ChartGiven, pair_given}
use Rattle.colorimetry.specs.Mixes.{mix_of}

-- "the least .., the first on a tie": of d 0, .. d (n - 1), none is less than d r and each before it is greater
pub record FirstLeast (d : ℕ → ℕ) (n r : ℕ) : Type 0 where
  pub inside : r < n
  pub least : (k : ℕ) → k < n → d r ≤ d k
  pub first : (k : ℕ) → k < r → d r < d k

-- a pair of neighbours and a weight that the chart has
pub record OnChart (c : ChartCall) (i weight : ℕ) : Type 0 where
  pub pair : i + 1 < shades_of c
  pub weights : weight ≤ 16

-- "the first pair and then the least weight": (i, k) comes before (j, l)
abbrev pub Before : ℕ → ℕ → ℕ → ℕ → Type 0
Before i k j l = (i < j) ⊎ ((i ≡ j) × (k < l))

-- the sums from the patch's whole-number mean
abbrev pub shade_from : ChartCall → ℕ → ℕ
shade_from c i = shade_off c.chart (whole_colour c.patch) i

abbrev pub mix_from : ChartCall → ℕ → ℕ → ℕ
mix_from c i k = mix_off c.chart (whole_colour c.patch) i k

pub record ChartClaims : Type 0 where
  -- the definition's index is the first among the least, and there is only one
  pub found : (d : ℕ → ℕ) (n : ℕ) → 0 < n → FirstLeast d n (first_least d n)
  pub only : (d : ℕ → ℕ) (n r s : ℕ) → FirstLeast d n r → FirstLeast d n s → r ≡ s
  -- "the index, from 0, with the least sum .., the first on a tie"
  pub nearest : (c : ChartCall) (r : ChartReply) (i : ℕ) → ChartGiven c r → r.nearest ≡ Some i → FirstLeast (shade_from c) (shades_of c) i
  -- "the pair .. and weight whose mix has the least such sum, the first pair and then the least weight on a tie"
  pub on_chart : (c : ChartCall) (r : ChartReply) (i k : ℕ) → ChartGiven c r → r.between ≡ pair_given i k → OnChart c i k
  pub least : (c : ChartCall) (r : ChartReply) (i k j l : ℕ) → ChartGiven c r → r.between ≡ pair_given i k → OnChart c j l → mix_from c i k ≤ mix_from c j l
  pub first : (c : ChartCall) (r : ChartReply) (i k j l : ℕ) → ChartGiven c r → r.between ≡ pair_given i k → OnChart c j l → Before j l i k → mix_from c i k < mix_from c j l
  -- a pair's last mix is the next pair's first, so that the weight 0 is only ever given with the first pair
  pub zero_first : (c : ChartCall) (r : ChartReply) (i : ℕ) → ChartGiven c r → r.between ≡ pair_given i 0 → i ≡ 0
  -- a mix lies between its shades, and at the ends it is one of them
  pub mixed : (k a b : ℕ) → k ≤ 16 → (min a b ≤ mix_of k a b) × (mix_of k a b ≤ max a b)
  pub at_first : (a b : ℕ) → mix_of 0 a b ≡ a
  pub at_last : (a b : ℕ) → mix_of 16 a b ≡ b
  -- "Where the patch is nothing, so are both answers.", and only there
  pub nothing : (c : ChartCall) (r : ChartReply) (s : PatchReply) → ChartGiven c r → PatchGiven c.patch s → T (accepted r.answer) → s.patch ≡ P.Nothing → (r.nearest ≡ None) × (r.between ≡ None)
  pub something : (c : ChartCall) (r : ChartReply) (s : PatchReply) → ChartGiven c r → PatchGiven c.patch s → T (accepted r.answer) → (r.nearest ≡ None) ⊎ (r.between ≡ None) → s.patch ≡ P.Nothing
