use Rattle.std.proofs.Common.{sym, ap, ◌∙◌}
use Rattle.fill.specs.declared.options.ChromaUpsampling.{ChromaUpsampling}
use Rattle.fill.specs.Fill.{linear_pair}
use Rattle.fill.specs.Inner.Steps.{fill_step}
use Rattle.image.specs.Picture.{planes_seen}
use Rattle.fill.proofs.rows.chroma_row.Goals as goal

pub linear_pair-requires : goal.linear_pair-requires
linear_pair-requires c =
    let p = c.requires in
    let o = p.chroma_lent.shaped in
    record { ready = record { shaped = o; plane = p.chroma_lent.cb; scratch = p.n_bound.1 }; ready_2 = record { shaped = o; plane = p.chroma_lent.cr; scratch = p.n_bound.1 }; row_lt_h = p.n_bound.0 }

pub guided_step-requires : goal.guided_step-requires
guided_step-requires c =
    let p = c.requires in
    record { lent = record { sound = p.chroma_lent.whole c.in-LumaGuided.is; luma = p.chroma_lent.luma; cb = p.chroma_lent.cb; cr = λ _. p.chroma_lent.cr }; n_bound = (p.n_bound.0, p.n_bound.1) }

pub returns-in-Linear : goal.returns-in-Linear
unfolding fill_step linear_pair
returns-in-Linear c =
    let a = c.args in
    c.linear_pair.ensures ∙ ap (λ (up : ChromaUpsampling). fill_step up a.layout (planes_seen a.planes) a.first a.n a.s.now) (sym c.in-Linear.is)

pub returns-in-LumaGuided : goal.returns-in-LumaGuided
unfolding fill_step
returns-in-LumaGuided c =
    let a = c.args in
    c.guided_step.ensures ∙ ap (λ (up : ChromaUpsampling). fill_step up a.layout (planes_seen a.planes) a.first a.n a.s.now) (sym c.in-LumaGuided.is)
