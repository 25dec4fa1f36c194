use Rattle.std.proofs.Common.{ℕ, get_or, rules}
use lib.Ieee.{nan}
use Rattle.lanes.proofs.Made.{made}
use Rattle.kernel_blocks.specs.Inner.Studio.{ToneByte}
use Rattle.kernel_blocks.proofs.Shades.{parted_less, parted_more}
use Rattle.kernel_blocks.proofs.studio_blocks.tone_row.Goals as goal

pub tone_doubts-d-requires : goal.tone_doubts-d-requires
tone_doubts-d-requires c =
    ((_, c.requires.0), λ i h. let p = c.requires.1 i h in (parted_less p.0.0, parted_more p.0.1, p.1))

pub returns : goal.returns
returns c =
    let a = c.args in
    λ k h. (made c.from_fn.ensures.items
    (λ (i v : ℕ). ToneByte a.m (get_or a.l i 0) (get_or a.x i nan) v)
    (λ i v q l u. (search rules, search rules)) k 0 h).is
