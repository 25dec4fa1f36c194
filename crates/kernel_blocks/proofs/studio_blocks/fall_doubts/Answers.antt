use Rattle.std.proofs.Common.{rules}
use Rattle.kernel_blocks.proofs.studio_blocks.fall_doubts.Goals as goal

pub any_doubt-requires : goal.any_doubt-requires
any_doubt-requires c = λ i h. let p = c.requires i h in search rules

pub returns : goal.returns
returns c = λ z i h. let q = c.any_doubt.ensures z i h in search rules
