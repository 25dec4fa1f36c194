-- "Any lent slice may be longer; its surplus is untouched": scratch behind what a call needs.
use Rattle.std.proofs.Common.{◌≡◌, refl, ap, ◌∙◌, Bool, true, false, cond, List, ℕ, ◌+◌, ◌≤◌, le_trans, get_or, Float}
use lib.Ieee.{nan}
use Rattle.laws.specs.Lists.{put}
use Rattle.laws.proofs.Lists.{put_after}
use Rattle.image.specs.declared.layout.Layout.{Layout}
use Rattle.image.specs.Scratch.{scratch_need}

-- behind what a layout needs, ys holds what xs holds
abbrev pub SameBehind : Layout → List Float → List Float → Type 0
SameBehind l xs ys = (i : ℕ) → scratch_need l ≤ i → get_or ys i nan ≡ get_or xs i nan

-- a run that ends at or before the need leaves what is behind it
pub run_behind : (l : Layout) (xs : List Float) (at n : ℕ) (f : ℕ → Float) → at + n ≤ scratch_need l → SameBehind l xs (put xs at n f)
run_behind l xs at n f h i k = put_after xs at n f i nan (le_trans h k)

-- a call that leaves `new` where it is accepted and `old` where it isn't leaves what is behind, if `new` does where it is accepted
pub call_behind : (l : Layout) (accepted : Bool) (old new after : List Float) → after ≡ cond accepted new old → (accepted ≡ true → SameBehind l old new) → SameBehind l old after
call_behind l true old new after e h i k = ap (λ (s : List Float). get_or s i nan) e ∙ h refl i k
call_behind l false old new after e h i k = ap (λ (s : List Float). get_or s i nan) e
