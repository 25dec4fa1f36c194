use Rattle.std.proofs.Common.{◌∙◌, ◌*◌, arith}
use Rattle.laws.proofs.Products.{divided}
use Rattle.laws.proofs.numbers.volume_passes.Goals as goal

pub returns : goal.returns
returns c = c.product_passes.ensures ∙ divided (c.args.a * c.args.b) c.args.c c.args.n (omega arith)
