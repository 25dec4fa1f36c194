use Rattle.std.proofs.Common.{ℕ, get_or, ◌≡◌, rules}
use lib.IntN.{pos, ◌+ℤ◌}
use Rattle.laws.specs.Differences.{limit}
use Rattle.lanes.proofs.Made.{made}
use Rattle.kernel_blocks.proofs.FixedRows.{small_back}
use Rattle.kernel_blocks.proofs.fixed.offset_row.Goals as goal

pub returns : goal.returns
returns c =
    let a = c.args in
    λ k h. made c.from_fn.ensures.items
    (λ (i v : ℕ). v ≡ limit 255 (pos (get_or a.y i 0) +ℤ get_or a.offset i (pos 0)))
    (λ i z q l u. (search rules, search (rules, small_back))) k 0 h
