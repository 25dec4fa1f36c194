-- c is x limited (`limited_by`), and its bits round it (`low_field`, `high_field`).
-- That c lies below 2 ^ 24 bounds the exponent's field by 150 (`field_le`), by which the count of the shift is not below 0.
use Rattle.std.proofs.Common.{arith}
use lib.Ieee.{is_nan}
use Rattle.fround.proofs.Laws.{rounded}
use Rattle.fround.proofs.Limits.{limited_by}
use Rattle.fround.proofs.ByBits.{field_le, low_field, high_field}
use Rattle.fround.proofs.round_clamped_by_bits.Goals as goal

pub float_to_bits-b : goal.float_to_bits-b
unfolding is_nan
float_to_bits-b c =
    let lim = limited_by _ _ _ _ _ c.well_formed.0.1 (omega arith) c.min.ensures c.clamp-b.ensures in
    rw lim.is tt

pub overflow_sub-result : goal.overflow_sub-result
overflow_sub-result c =
    let lim = limited_by _ _ _ _ _ c.well_formed.0.1 (omega arith) c.min.ensures c.clamp-b.ensures in
    field_le _ _ _ (omega arith) lim

pub returns-then-e-lt126 : goal.returns-then-e-lt126
returns-then-e-lt126 c =
    let lim = limited_by _ _ _ _ _ c.well_formed.0.1 (omega arith) c.min.ensures c.clamp-b.ensures in
    rounded (low_field _ _ _ lim (omega arith))

pub returns-else-e-lt126 : goal.returns-else-e-lt126
returns-else-e-lt126 c =
    let lim = limited_by _ _ _ _ _ c.well_formed.0.1 (omega arith) c.min.ensures c.clamp-b.ensures in
    rounded (high_field _ _ _ (omega arith) lim (omega arith))
