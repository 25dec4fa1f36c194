use Rattle.std.proofs.Common.{ℕ, arith, get_or, rules}
use lib.IntN.{pos}
use lib.Ieee.{nan}
use Rattle.lanes.proofs.Made.{made, at_places}
use Rattle.kernel_blocks.specs.Inner.Blocks.{ChromaByte}
use Rattle.kernel_blocks.proofs.exact.chroma_row.Goals as goal

pub from_fn-requires : goal.from_fn-requires
from_fn-requires c =
    (omega arith, at_places (λ i q r. search rules) (λ i h. let m = c.requires.0 in let p = c.requires.1 i h in search rules))

pub returns : goal.returns
returns c =
    let a = c.args in
    λ k h. (made c.from_fn.ensures.items
    (λ (i v : ℕ). ChromaByte a.k a.tie (get_or a.y i (pos 0)) (get_or a.x i nan) v)
    (λ i v q l u. (search rules, search rules)) k 0 h).is
