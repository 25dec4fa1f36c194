use Rattle.std.proofs.Common.{◌≡◌, ℕ, arith, get_or, rules}
use lib.IntN.{pos}
use lib.Ieee.{nan}
use Rattle.lanes.proofs.Made.{made, at_places}
use Rattle.kernel_blocks.specs.Inner.Blocks.{GreenByte}
use Rattle.kernel_blocks.specs.Inner.Floating.{Sure}
use Rattle.kernel_blocks.proofs.exact.green_row.Goals as goal

pub doubt-d-requires : goal.doubt-d-requires
doubt-d-requires c = λ i h. let p = c.requires i h in (p.1, p.2)

pub from_fn-requires : goal.from_fn-requires
from_fn-requires c =
    (omega arith, at_places (λ i q r. search rules) (λ i h. let p = c.requires i h in let s : c.doubt-d.result ≡ 0 → Sure (get_or c.args.cb i nan) (get_or c.args.cr i nan) = λ e. c.doubt-d.ensures e i h in search (rules, s)))

pub returns : goal.returns
returns c =
    let a = c.args in
    λ k h. (made c.from_fn.ensures.items
    (λ (i v : ℕ). GreenByte (get_or a.y i (pos 0)) (get_or a.cb i nan) (get_or a.cr i nan) v)
    (λ i v q l u. (search rules, search rules)) k 0 h).is
