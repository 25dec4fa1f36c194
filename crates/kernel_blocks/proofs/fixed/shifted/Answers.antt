use Rattle.std.proofs.Common.{◌≡◌, refl}
use lib.IntN.{◌+ℤ◌}
use lib.Signed.{shr_z}
use mir.Syntax.{w32}
use mir.Val.{to_z, of_z}
use Rattle.laws.specs.Differences.{floor_div}
use Rattle.kernel_blocks.proofs.FixedRows.{sum_small, back, small_back, shift_is, shift_small}
use Rattle.kernel_blocks.proofs.fixed.shifted.Goals as goal

pub returns : goal.returns
returns c =
    let as-it-is : to_z w32 (of_z w32 c.args.cb_part) +ℤ to_z w32 (of_z w32 c.args.cr_part) ≡ c.args.cb_part +ℤ c.args.cr_part = rw (small_back c.args.cb_part c.requires.0, small_back c.args.cr_part c.requires.1) refl in
    let z = c.args.cb_part +ℤ c.args.cr_part in
    let l = sum_small c.args.cb_part c.args.cr_part c.requires.0 c.requires.1 in
    let m = shift_small z l in
    let e : to_z w32 (of_z w32 (shr_z (to_z w32 (of_z w32 (to_z w32 (of_z w32 c.args.cb_part) +ℤ to_z w32 (of_z w32 c.args.cr_part)))) 65536)) ≡ floor_div z 65536 = rw (as-it-is, back z l, shift_is z) (small_back (floor_div z 65536) m) in
    (e, rw e m)
