-- Two returns, for samples of one byte and of two: `inner_are` takes the callee's run of nines to `extreme_run`, cells being one or two bytes apart.
-- The work is in the bounds: the rows above, at and below j end within the plane (`three_rows`), and there is no third width.
use Rattle.std.proofs.Common.{ℕ, ◌*◌, refl, ap, ◌∙◌, arith}
use Rattle.guided_down.proofs.Wholes.{inner_are, three_rows}
use Rattle.image.specs.Samples.{seen}
use Rattle.guided_down.proofs.extremes.extreme_inner.Goals as goal

pub byte_run-requires : goal.byte_run-requires
byte_run-requires c =
    let r = three_rows _ _ _ _ _ _ 1 c.requires.0.plane (omega arith) c.if-layout-eq1.true c.prev.ensures c.next.ensures in
    (record { up = omega arith; at = omega arith; down = omega arith }, omega arith)

pub returns-then-layout-eq1 : goal.returns-then-layout-eq1
returns-then-layout-eq1 c =
    let a = c.args in
    c.byte_run.ensures ∙ inner_are _ (seen a.plane) _ a.j _ 1 _ _ _ (λ i. i) _ a.plane.fit c.if-layout-eq1.true (λ i. omega arith) (ap (λ (r : ℕ). r * a.plane.stride) c.prev.ensures) refl
    (ap (λ (r : ℕ). r * a.plane.stride) c.next.ensures)

pub nine_cells-requires : goal.nine_cells-requires
nine_cells-requires c =
    let o = c.requires.0.sound in
    let r = three_rows _ _ _ _ _ _ 2 c.requires.0.plane (omega arith) (omega (arith, c.if-layout-eq1.false)) c.prev.ensures c.next.ensures in
    (record { up = omega arith; at = omega arith; down = omega arith }, omega arith)

pub returns : goal.returns
returns c =
    let a = c.args in
    let o = c.requires.0.sound in
    c.nine_cells.ensures ∙ inner_are _ (seen a.plane) _ a.j _ 2 _ _ _ (λ i. i * 2) _ a.plane.fit (omega (arith, c.if-layout-eq1.false)) (λ i. refl) (ap (λ (r : ℕ). r * a.plane.stride) c.prev.ensures) refl
    (ap (λ (r : ℕ). r * a.plane.stride) c.next.ensures)
