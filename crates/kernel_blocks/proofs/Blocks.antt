-- A block's pixels.
use Rattle.std.proofs.Common.{◌≡◌, refl, List, ℕ, ◌<◌, get_or, Float}
use lib.Ieee.{nan}
use Rattle.kernels.specs.declared.bytes.Rgb.{Rgb}
use Rattle.kernels.specs.Kernels.{exact255}
use Rattle.kernel_blocks.specs.Inner.Floating.{Centred}
use Rattle.kernel_blocks.specs.Inner.Blocks.{BlockOf}
use Rattle.kernels.specs.Inner.Forms.{colour_of}
use Rattle.kernel_blocks.specs.Inner.Stores.{block_pixel}

module _ {n : ℕ} {rows : List (List ℕ)} {y : List ℕ} {cb cr : List Float} (o : BlockOf n rows y cb cr) (k : ℕ) (h : k < n) {b r : ℕ} (u : Centred (get_or cb k nan) b) (v : Centred (get_or cr k nan) r) where
  -- pixel k of a block is the exact kernel's
  pub block_pixel_is : block_pixel rows k ≡ exact255 (get_or y k 0) b r
  block_pixel_is = rw (o.red k h b r u v, o.green k h b r u v, o.blue k h b r u v) refl

  -- "Both give the same bytes": the block's pixel is what the plain form gives
  pub block_plain : (p : Rgb) → colour_of p ≡ exact255 (get_or y k 0) b r → block_pixel rows k ≡ colour_of p
  block_plain p e = rw e block_pixel_is
