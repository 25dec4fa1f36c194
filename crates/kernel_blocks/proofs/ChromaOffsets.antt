-- The offset that the float gives is the exact one, for red's multiplier and for blue's: the laws of RedAndBlue at its two records of numbers.
use Rattle.std.proofs.Common.{ℕ, not, T, Float}
use lib.Ieee.{binary32, is_nan, to_bits}
use Rattle.laws.specs.Floats.{◌⊕◌, ◌⊗◌}
use Rattle.kernels.specs.Kernels.{centred}
use Rattle.kernels.specs.Inner.Forms.{chroma_offset}
use Rattle.kernel_blocks.specs.Inner.Floating.{Centred, OnGrid, Multiplier, for_red, for_blue, middle}
use Rattle.kernel_blocks.proofs.RedAndBlue.{chroma_offset_bits, chroma_offset_on_grid, red_numbers, blue_numbers}

pub chroma_offset_is : {k tie x : Float} {m c : ℕ} → Multiplier k tie m → Centred x c → OnGrid (chroma_offset m (centred c)) (to_bits binary32 (middle ⊕ (k ⊗ x ⊕ tie)))
chroma_offset_is for_red h = chroma_offset_on_grid red_numbers h
chroma_offset_is for_blue h = chroma_offset_on_grid blue_numbers h

pub chroma_offset_number : {k tie x : Float} {m c : ℕ} → Multiplier k tie m → Centred x c → T (not (is_nan (middle ⊕ (k ⊗ x ⊕ tie))))
chroma_offset_number for_red h = (chroma_offset_bits red_numbers h).number
chroma_offset_number for_blue h = (chroma_offset_bits blue_numbers h).number
