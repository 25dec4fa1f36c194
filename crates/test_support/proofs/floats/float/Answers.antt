use Rattle.std.proofs.Common.{sym, ◌∙◌, subst, Bool, not, T, le-ltb, ◌%◌}
use lib.Ieee.{binary32}
use lib.Ieee.Bits.{nan_bits_above}
use Rattle.test_support.proofs.floats.float.Goals as goal

pub float_from_bits-result : goal.float_from_bits-result
float_from_bits-result c =
    let n = c.args.bits in
    subst (λ (b : Bool). T (not b)) (sym (nan_bits_above binary32 n ∙ le-ltb 2139095040 (n % 2147483648) c.if-bits-gt2139095040.false)) tt
