-- A turn is `joined`: a word of three colour bytes and one of the fourth byte alone add up.
use Rattle.std.proofs.Common.{ℕ, ◌+◌, ◌*◌, get_or, rules}
use Rattle.lanes.proofs.Made.{made}
use Rattle.kernel_blocks.specs.Inner.Stores.{block_pixel}
use Rattle.kernel_blocks.specs.Inner.Words.{Word}
use Rattle.kernel_blocks.proofs.Packed.{joined}
use Rattle.kernel_blocks.proofs.words.words.Goals as goal

pub returns : goal.returns
returns c =
    let a = c.args in
    λ k h. made c.from_fn.ensures.items
    (λ (i v : ℕ). Word v (block_pixel a.rows i) (get_or a.dst.now (a.at + i * 4 + 3) 0))
    (λ i v q l u. (search rules, search (rules, joined))) k 0 h
