-- Outputs below the first cell, turns and rest are one run by `across_parts`, as head, pairs and rest are.
use Rattle.std.proofs.Common.{ap, ◌∙◌, List, ℕ, ◌+◌, ◌-◌, ◌*◌, Float}
use Rattle.linear.specs.Inner.AcrossRows.{across_run}
use Rattle.linear.proofs.AcrossRuns.{across_parts}
use Rattle.linear.proofs.across.across_turns.Goals as goal

pub returns : goal.returns
returns c =
    let a = c.args in
    let run : ℕ → ℕ → List Float → List Float = across_run a.row in
    let turns = a.row.r * a.n in
    c.across_taps-2.ensures
    ∙ ap (run (a.from + turns) (a.row.w - (a.from + turns))) (c.across_cycles.ensures ∙ ap (run a.from turns) c.across_taps.ensures)
    ∙ across_parts a.row a.from turns a.s.now c.requires.0.behind c.requires.1.outputs
