use Rattle.std.proofs.Common.{◌≡◌, ℕ, ◌<◌}
use Rattle.colorimetry.specs.Inner.Search.{Least}
use Rattle.colorimetry.proofs.shade.first_nearest.Given as goal

abbrev pub invariant-loop-i : goal.invariant-loop-i
invariant-loop-i g l = (d : ℕ → ℕ) → ((i x : ℕ) → i < l.n → goal.F-post g l.off i x → x ≡ d i) → Least d l.i l.found.index l.found.off
