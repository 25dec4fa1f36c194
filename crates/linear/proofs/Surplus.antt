-- "Any lent slice may be longer; its surplus is untouched": scratch after `linear_plane`, behind what the call needs.
use Rattle.std.proofs.Common.{◌≡◌, refl, ◌∙◌, List, ℕ, zero, suc, ◌≤◌, arith, get_or, Float}
use lib.Ieee.{nan}
use Rattle.laws.specs.Refusals.{Answer, accepted}
use Rattle.image.specs.declared.layout.Layout.{Layout}
use Rattle.image.specs.Samples.{Plane}
use Rattle.image.specs.Scratch.{scratch_need}
use Rattle.image.proofs.Surplus.{SameBehind, run_behind, call_behind}
use Rattle.linear.specs.Linear.{linear_row, linear_scratch, linear_cells_at, LinearGiven}

-- a row whose finished values lie at the front, or behind another such row: its two runs end within the need
pub linear_row_behind : (l : Layout) (p : Plane) (at y : ℕ) (s : List Float) → at ≤ l.w → SameBehind l s (linear_row l p at y s)
unfolding linear_row scratch_need
linear_row_behind l p at y s h i k = run_behind l _ at l.w _ (omega arith) i k ∙ run_behind l s (linear_cells_at l) l.cw _ (omega arith) i k

linear_behind : (l : Layout) (p : Plane) (n : ℕ) (s : List Float) → SameBehind l s (linear_scratch l p n s)
unfolding linear_scratch
linear_behind l p zero s i h = refl
linear_behind l p (suc n) s i h = linear_row_behind l p 0 n _ (omega arith) i h ∙ linear_behind l p n s i h

pub linear_surplus : (l : Layout) (p : Plane) (scratch : List Float) (out : List ℕ) {answer : Answer} {scratch' : List Float} {out' : List ℕ} → LinearGiven l p scratch out answer scratch' out'
    → (i : ℕ) → scratch_need l ≤ i → get_or scratch' i nan ≡ get_or scratch i nan
linear_surplus l p scratch out {answer} {scratch'} g = call_behind l (accepted answer) scratch _ scratch' g.scratches (λ _. linear_behind l p l.h scratch)
