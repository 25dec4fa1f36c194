use Rattle.std.proofs.Common.{refl, sym, ◌∙◌, arith}
use Rattle.kernels.proofs.FixedPoint.{green_cb_diff, green_cr_diff, green_parts}
use Rattle.kernels.proofs.fixed.fixed_green.Goals as goal

pub returns : goal.returns
returns c =
    rw c.from.ensures at c.limit8.ensures ∙ sym (green_parts c.args.y c.args.cb c.args.cr _ _ 1475280896 3070033920 69356 (green_cb_diff 1478167808 1475280896 c.args.cb _ (omega arith) (omega arith) c.green_cb_part.ensures) (green_cr_diff 3076057344 3070033920 c.args.cr _ (omega arith) (omega arith) c.green_cr_part.ensures) refl)
