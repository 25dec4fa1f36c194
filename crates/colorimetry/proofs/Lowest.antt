-- "The lowest number that applies is given, and only then": the lists of `patch_mean`, `chart_reading` and `blend_row` stand in the table's
-- order, so their answers are the lowest.
use Rattle.std.proofs.Common.{List, ℕ, arith, Float}
use Rattle.laws.specs.Refusals.{place_of, Ascending, Lowest}
use Rattle.laws.proofs.Refusals.{given_lowest}
use Rattle.colorimetry.specs.Blends.{BlendReply, BlendCall, blend_tests, BlendGiven}
use Rattle.colorimetry.specs.Patches.{PatchReply, PatchCall, patch_tests, PatchGiven}
use Rattle.colorimetry.specs.Charts.{ChartReply, ChartCall, chart_tests, ChartGiven}

pub patch_ascends : (c : PatchCall) → Ascending 0 (patch_tests c)
unfolding place_of Ascending patch_tests
patch_ascends c = (omega arith, (omega arith, (omega arith, tt)))

pub patch_lowest : (c : PatchCall) (r : PatchReply) → PatchGiven c r → Lowest (patch_tests c) r.answer
patch_lowest c r g = given_lowest (patch_tests c) r.answer (patch_ascends c) g.answers

pub chart_ascends : (c : ChartCall) → Ascending 0 (chart_tests c)
unfolding place_of Ascending chart_tests patch_tests
chart_ascends c = (omega arith, (omega arith, (omega arith, (omega arith, tt))))

pub chart_lowest : (c : ChartCall) (r : ChartReply) → ChartGiven c r → Lowest (chart_tests c) r.answer
chart_lowest c r g = given_lowest (chart_tests c) r.answer (chart_ascends c) g.answers

pub blend_ascends : (c : BlendCall) → Ascending 0 (blend_tests c)
unfolding place_of Ascending blend_tests
blend_ascends c = (omega arith, (omega arith, (omega arith, (omega arith, (omega arith, (omega arith, (omega arith, tt)))))))

pub blend_lowest : (c : BlendCall) (r : BlendReply) (s t : List Float) (out : List ℕ) → BlendGiven c r s t out → Lowest (blend_tests c) r.answer
blend_lowest c r s t out g = given_lowest (blend_tests c) r.answer (blend_ascends c) g.answers
