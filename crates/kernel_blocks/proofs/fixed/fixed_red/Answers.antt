use Rattle.std.proofs.Common.{◌≡◌, ap, ◌∙◌, ℕ, get_or, rules}
use lib.IntN.{ℤ, pos, ◌+ℤ◌}
use Rattle.laws.specs.Differences.{limit}
use Rattle.lanes.proofs.Made.{made}
use Rattle.kernels.specs.Kernels.{fixed_red}
use Rattle.kernels.specs.Inner.Forms.{fixed_offset, plus_fixed}
use Rattle.kernel_blocks.specs.Inner.Blocks.{Small}
use Rattle.kernel_blocks.proofs.FixedRows.{red_small}
use Rattle.kernel_blocks.proofs.fixed.fixed_red.Goals as goal

pub offset_row-requires : goal.offset_row-requires
offset_row-requires c =
    λ k h. made c.from_fn.ensures.items (λ (i : ℕ) (z : ℤ). Small z) (λ i z q l u. (search rules, search (rules, red_small))) k (pos 0) h

pub returns : goal.returns
unfolding plus_fixed fixed_offset fixed_red
returns c =
    let a = c.args in
    λ k h.
    let e = made c.from_fn.ensures.items (λ (i : ℕ) (z : ℤ). z ≡ fixed_red (get_or a.cr i 0)) (λ i z q l u. (search rules, search rules)) k (pos 0) h in
    c.offset_row.ensures k h ∙ ap (λ (o : ℤ). limit 255 (pos (get_or a.y k 0) +ℤ o)) e
