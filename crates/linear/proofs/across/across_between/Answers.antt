use Rattle.std.proofs.Common.{◌≡◌, sym, ap, ◌∙◌, ℕ, ◌≤◌, ◌<◌, List, Float, arith}
use Rattle.linear.specs.Inner.AcrossRows.{part_of, parts_in, between_run}
use Rattle.linear.proofs.AcrossRuns.{parts_run}
use Rattle.laws.specs.declared.axes.Siting.{Siting}
use Rattle.linear.proofs.across.across_between.Goals as goal

four : (r : ℕ) → (r ≡ 2 → ⊥) → (r ≡ 3 → ⊥) → 1 < r → r ≤ 4 → r ≡ 4
four r p q h k = omega arith

-- what a loop for ratio k leaves, by the fractions of ratio r, which is k
done : (siting : Siting) (r k : ℕ) (parts : List Float) → 0 < r → r ≤ 4 → ((j : ℕ) → j < 4 → parts_in parts j ≡ part_of siting r j) → (src n dst : ℕ) (s t : List Float) → r ≡ k
    → t ≡ between_run (parts_in parts) k src n dst s → t ≡ between_run (part_of siting r) r src n dst s
done siting r k parts z l f src n dst s t e h = h ∙ ap (λ (m : ℕ). between_run (parts_in parts) m src n dst s) (sym e) ∙ parts_run siting r parts z l f src n dst s

pub returns-then-r-eq2 : goal.returns-then-r-eq2
returns-then-r-eq2 c =
    let a = c.args in
    done a.siting a.r 2 c.parts_of-parts.result (omega arith) (omega arith) c.parts_of-parts.ensures a.src a.n a.dst a.s.now _ c.if-r-eq2.true c.across_twos.ensures

pub returns-then-r-eq3 : goal.returns-then-r-eq3
returns-then-r-eq3 c =
    let a = c.args in
    done a.siting a.r 3 c.parts_of-parts.result (omega arith) (omega arith) c.parts_of-parts.ensures a.src a.n a.dst a.s.now _ c.if-r-eq3.true c.across_each.ensures

pub returns : goal.returns
returns c =
    let a = c.args in
    let e = four a.r c.if-r-eq2.false c.if-r-eq3.false (omega arith) (omega arith) in
    done a.siting a.r 4 c.parts_of-parts.result (omega arith) (omega arith) c.parts_of-parts.ensures a.src a.n a.dst a.s.now _ e c.across_each-2.ensures
