use Rattle.std.proofs.Common.{◌∙◌}
use Rattle.image.proofs.Any.{slices_differ}
use Rattle.image.proofs.differences.bytes_differ.Goals as goal

pub returns : goal.returns
returns c = let a = c.args in c.ne.ensures ∙ slices_differ a.n a.at a.to a.p.now a.q.now c.requires.0 c.requires.1
