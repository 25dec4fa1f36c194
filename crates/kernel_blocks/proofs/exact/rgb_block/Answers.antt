use Rattle.std.proofs.Common.{ℕ, ◌<◌, get_or}
use lib.IntN.{pos}
use lib.Ieee.{of_bits, neg}
use Rattle.kernels.specs.Kernels.{red_offset, blue_offset, exact255}
use Rattle.kernels.specs.Inner.Forms.{chroma_offset, plus_chroma}
use Rattle.kernel_blocks.specs.Inner.Floating.{for_red, for_blue, Luma}
use Rattle.kernel_blocks.proofs.exact.rgb_block.Goals as goal

pub chroma_row-red-requires : goal.chroma_row-red-requires
unfolding of_bits neg
chroma_row-red-requires c =
    let luma : (i : ℕ) → i < 16 → Luma (get_or c.lowered-low.result i (pos 0)) = λ i h. (_, c.lowered-low.ensures i h) in
    ((1402, for_red), λ i h. (luma i h, (c.requires i h).1))

pub green_row-green-requires : goal.green_row-green-requires
green_row-green-requires c =
    let luma : (i : ℕ) → i < 16 → Luma (get_or c.lowered-low.result i (pos 0)) = λ i h. (_, c.lowered-low.ensures i h) in
    λ i h. (luma i h, (c.requires i h).0, (c.requires i h).1)

pub chroma_row-blue-requires : goal.chroma_row-blue-requires
unfolding of_bits
chroma_row-blue-requires c =
    let luma : (i : ℕ) → i < 16 → Luma (get_or c.lowered-low.result i (pos 0)) = λ i h. (_, c.lowered-low.ensures i h) in
    ((1772, for_blue), λ i h. (luma i h, (c.requires i h).0))

pub returns : goal.returns
unfolding of_bits neg exact255 red_offset blue_offset plus_chroma chroma_offset
returns c =
    record {
      red = λ k h b r u v. c.chroma_row-red.ensures k h 1402 _ r for_red (c.lowered-low.ensures k h) v;
      green = λ k h b r u v. c.green_row-green.ensures k h _ b r (c.lowered-low.ensures k h) u v;
      blue = λ k h b r u v. c.chroma_row-blue.ensures k h 1772 _ b for_blue (c.lowered-low.ensures k h) u;
    }
