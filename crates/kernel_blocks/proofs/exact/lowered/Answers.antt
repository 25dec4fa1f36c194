use lib.IntN.{ℤ, pos}
use Rattle.std.proofs.Common.{get_or, ℕ, rules}
use Rattle.lanes.proofs.Made.{made}
use Rattle.kernel_blocks.specs.Inner.Floating.{Lowered}
use Rattle.kernel_blocks.proofs.exact.lowered.Goals as goal

pub returns : goal.returns
returns c = λ k h. made c.from_fn.ensures.items (λ (i : ℕ) (z : ℤ). Lowered z (get_or c.args.y i 0)) (λ i z q l u. (search rules, search rules)) k (pos 0) h
