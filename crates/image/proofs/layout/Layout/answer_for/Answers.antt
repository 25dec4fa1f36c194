-- The first two tests passed, and what their failing says bounds the products of the last.
use Rattle.std.proofs.Common.{sym, ◌∙◌, le_trans}
use Rattle.image.proofs.Layouts as P
use Rattle.laws.proofs.Refusals.{accepted_failed}
use Rattle.image.proofs.layout.Layout.answer_for.Goals as goal

pub bad_chroma-requires : goal.bad_chroma-requires
bad_chroma-requires c =
    let a = c.args in
    let failed = accepted_failed _ (sym c.first.ensures ∙ c.in_ok-first.was) in
    let s = P.size_passed a.self (sym c.bad_size.ensures ∙ failed.0) in
    let r = P.ratio_passed a.whole a.self (sym c.bad_ratio.ensures ∙ failed.1.0) in
    let x = P.pair_most a.whole a.self.across a.self.rh r.0 in
    let y = P.pair_most a.whole a.self.down a.self.rv r.1 in
    (s.0.1, s.1.1, le_trans x r.0.r_most, le_trans y r.1.r_most)
