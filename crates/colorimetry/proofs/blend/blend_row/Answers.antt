-- An accepted blend's two row calls can't be refused (`handed`); what they leave together is `blend_given`.
use Rattle.std.proofs.Common.{◌∙◌, sym, arith}
use Rattle.laws.proofs.Refusals.{not_refused}
use Rattle.reconstruction.proofs.Laws.{side_passes}
use Rattle.colorimetry.proofs.BlendCalls.{handed, early_done, blend_given}
use Rattle.colorimetry.proofs.blend.blend_row.Goals as goal

pub returns-in_err-rgb_row : goal.returns-in_err-rgb_row
returns-in_err-rgb_row c =
    let q = sym c.blend_answer.ensures ∙ c.in_ok-blend_answer.was in
    absurd (not_refused _ _ _ (early_done _ q) c.rgb_row.ensures.answers c.in_err-rgb_row.was)

pub mix_late-requires : goal.mix_late-requires
mix_late-requires c =
    let h = handed _ (sym c.blend_answer.ensures ∙ c.in_ok-blend_answer.was) in
    record { out_value = side_passes _ h.late (omega arith); weight_bound = h.light }

pub returns : goal.returns
returns c =
    let q = sym c.blend_answer.ensures ∙ c.in_ok-blend_answer.was in
    rw c.mix_late.ensures.accepts (blend_given _ q _ _ _ _ _ _ c.rgb_row.ensures c.mix_late.ensures.gives)
