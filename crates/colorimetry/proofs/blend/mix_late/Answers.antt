-- The late row call can't be refused, since it passes with out for its output and the room is as long as a row of the greatest width.
use Rattle.std.proofs.Common.{◌≡◌, ◌≤◌, ℕ, List, Ok, length, arith}
use Rattle.laws.specs.Refusals.{first}
use Rattle.laws.proofs.Refusals.{accepted_failed, not_refused}
use Rattle.guided.specs.Calls.{reader_layout}
use Rattle.reconstruction.specs.Reader.{RgbRowCall, rgb_row_call}
use Rattle.reconstruction.specs.Refusals.{rgb_row_tests}
use Rattle.reconstruction.proofs.Laws.{fine, side_fine, side_passes, rgb_row_handed}
use Rattle.colorimetry.proofs.BlendCalls.{late_given}
use Rattle.colorimetry.proofs.blend.mix_late.Goals as goal

-- a row that would be accepted is at most 8,192 wide, and so it is with a room of 24,576 bytes
most : (k : RgbRowCall) → first (rgb_row_tests k) ≡ Ok tt → k.side.reader.geometry.w ≤ 8192
unfolding reader_layout
most k e = (fine _ (side_fine _ (accepted_failed _ e)).state).sound.w_most

passes : (k : RgbRowCall) (room : List ℕ) → first (rgb_row_tests k) ≡ Ok tt → length room ≡ 24576 → first (rgb_row_tests (rgb_row_call k.y k.side room)) ≡ Ok tt
passes k room e l = let m = most k e in side_passes (rgb_row_call k.y k.side room) (side_fine _ (accepted_failed _ e)) (omega (arith, l, m))

pub returns-in_err-rgb_row : goal.returns-in_err-rgb_row
returns-in_err-rgb_row c =
    absurd (not_refused _ _ _ (passes _ _ c.requires.out_value (omega arith)) c.rgb_row.ensures.answers c.in_err-rgb_row.was)

pub overflow_mul-w : goal.overflow_mul-w
overflow_mul-w c = omega (arith, most _ c.requires.out_value)

pub mix_bytes-requires : goal.mix_bytes-requires
unfolding reader_layout
mix_bytes-requires c =
    (c.requires.weight_bound, omega (arith, most _ c.requires.out_value), (rgb_row_handed _ (accepted_failed _ c.requires.out_value)).output)

pub returns-clause-gives : goal.returns-clause-gives
returns-clause-gives c =
    late_given _ _ _ _ _ _ _ _ _ c.requires.out_value (omega (arith, most _ c.requires.out_value)) c.rgb_row.ensures c.mix_bytes.ensures
