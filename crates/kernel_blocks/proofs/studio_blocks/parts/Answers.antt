use Rattle.std.proofs.Common.{◌≡◌, ℕ, get_or, Float, rules}
use lib.Ieee.{nan}
use Rattle.lanes.proofs.Made.{made}
use Rattle.kernel_blocks.specs.Inner.Studio.{luma_part}
use Rattle.kernel_blocks.proofs.studio_blocks.parts.Goals as goal

pub returns : goal.returns
returns c =
    let a = c.args in
    λ k h. made c.from_fn.ensures.items (λ (i : ℕ) (v : Float). v ≡ luma_part a.shift (get_or a.l i 0)) (λ i v q l u. (search rules, search rules)) k nan h
