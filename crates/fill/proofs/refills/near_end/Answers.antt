use Rattle.std.proofs.Common.{◌∙◌, sym, arith}
use Rattle.fill.proofs.Near.{top_most}
use Rattle.fill.proofs.refills.near_end.Goals as goal

pub overflow_add-end : goal.overflow_add-end
overflow_add-end c = let m = top_most c.args.layout c.args.cells c.requires.0 c.requires.1 (sym c.is_empty.ensures ∙ c.if-is_empty.false) in omega arith

pub overflow_add-end-2 : goal.overflow_add-end-2
overflow_add-end-2 c = let m = top_most c.args.layout c.args.cells c.requires.0 c.requires.1 (sym c.is_empty.ensures ∙ c.if-is_empty.false) in omega arith
