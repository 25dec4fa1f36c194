-- Head, pairs and rest are one run by `across_parts`, since each part leaves the cells, which lie behind the row, as they were.
-- The pairs' loop is no loop over taps; `between_taps` says that its outputs are those of the taps from the head on.
use Rattle.std.proofs.Common.{◌≡◌, sym, ap, ◌∙◌, List, ℕ, ◌+◌, ◌-◌, ◌*◌, Float}
use Rattle.linear.specs.Inner.AcrossRows.{part_of, across_run, between_run}
use Rattle.linear.proofs.AcrossRuns.{between_taps, across_parts}
use Rattle.linear.proofs.across.across_parts.Goals as goal

pub returns : goal.returns
returns c =
    let a = c.args in
    let row = a.row in
    let p = c.requires.1 in
    let run : ℕ → ℕ → List Float → List Float = across_run row in
    let pairs = row.r * a.n in
    let s1 = c.across_taps.new.s in
    let t : c.across_between.new.s ≡ run a.head pairs s1 =
    c.across_between.ensures
    ∙ ap (λ (h : ℕ). between_run (part_of row.axis.siting row.r) row.r row.src a.n (row.dst + h) s1) p.begins
    ∙ between_taps row a.n s1 p.whole p.ratio p.cells
    ∙ ap (λ (h : ℕ). run h pairs s1) (sym p.begins) in
    c.across_taps-2.ensures
    ∙ ap (run (a.head + pairs) (row.w - (a.head + pairs))) (t ∙ ap (run a.head pairs) c.across_taps.ensures)
    ∙ across_parts row a.head pairs a.s.now c.requires.0.behind p.outputs
