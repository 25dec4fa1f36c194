-- A row by blocks. Definitions only.
use Rattle.std.specs.Prelude.{◌≡◌, List, ℕ, ◌+◌, ◌<◌, ◌≤◌}
use Rattle.image.specs.declared.layout.Layout.{Layout}
use Rattle.kernels.specs.Kernels.{Colour}
use Rattle.kernel_blocks.specs.Inner.Stores.{block_pixel}
use Rattle.kernels.specs.declared.kernel.YcbcrKernel.{YcbcrKernel}
use Rattle.kernels.specs.declared.kernel.YcbcrKernel.TheVariants.{Exact}

-- a block's three rows are the n pixels of f from column x on
pub record PixelsFrom (n : ℕ) (rows : List (List ℕ)) (x : ℕ) (f : ℕ → Colour) : Type 0 where
  pub at : (k : ℕ) → k < n → block_pixel rows k ≡ f (x + k)

-- a row that goes by blocks of n pixels: it is as wide as one, and the exact kernel has a block at maxval 255 only
pub record Blocked (n : ℕ) (kernel : YcbcrKernel) (l : Layout) : Type 0 where
  pub wide : n ≤ l.w
  pub exact : kernel ≡ Exact → l.maxval ≡ 255
