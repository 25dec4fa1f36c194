use Rattle.std.proofs.Common.{◌≡◌, sym, ◌∙◌, ℕ, arith}
use lib.Bits.{bit_xor, xor_add_and, and_le_l, and_le_r}
use lib.Ieee.{of_bits, neg}
use Rattle.kernel_blocks.specs.Inner.Floating.{added, taken}
use Rattle.kernel_blocks.proofs.chroma_offsets.green_doubt.Goals as goal

xor-zero : (a b : ℕ) → bit_xor a b ≡ 0 → a ≡ b
xor-zero a b e = omega (arith, xor_add_and a b, and_le_l a b, and_le_r a b)

pub green_near-requires : goal.green_near-requires
unfolding of_bits
green_near-requires c =
    let p = c.requires in (p.0, p.1, added)

pub green_near-requires-2 : goal.green_near-requires-2
unfolding of_bits neg
green_near-requires-2 c =
    let p = c.requires in (p.0, p.1, taken)

pub returns : goal.returns
unfolding of_bits neg
returns c =
    λ e. sym c.green_near.ensures.0 ∙ xor-zero _ _ e ∙ c.green_near-2.ensures.0
