-- The sample k columns behind the first lies k samples' bytes behind it; samples that aren't of one byte have two.
use Rattle.std.proofs.Common.{◌≡◌, ap, ◌∙◌, ℕ, ◌+◌, ◌*◌, arith}
use Rattle.image.specs.Samples.{sample_of, sample_at}
use Rattle.image.proofs.sixteens.row_block.Goals as goal

pub returns-then-sample_bytes-eq1 : goal.returns-then-sample_bytes-eq1
unfolding sample_at
returns-then-sample_bytes-eq1 c =
    let a = c.args in
    let e = c.if-sample_bytes-eq1.true in
    let at : (k : ℕ) → a.row * a.plane.stride + a.x * 1 + k * 1 ≡ a.row * a.plane.stride + (a.x + k) * 1 = λ k. omega arith in
    λ k h. rw e (rw e at (c.block.ensures k h) ∙ ap (sample_of 1 a.plane.bytes.now) (at k))

pub block-requires-2 : goal.block-requires-2
block-requires-2 c =
    let two : c.args.sample_bytes ≡ 2 = omega (arith, c.requires.0, c.requires.1, c.if-sample_bytes-eq1.false) in
    (omega arith, omega arith, omega (arith, two, c.requires.2))

pub returns : goal.returns
unfolding sample_at
returns c =
    let a = c.args in
    let two : a.sample_bytes ≡ 2 = omega (arith, c.requires.0, c.requires.1, c.if-sample_bytes-eq1.false) in
    let at : (k : ℕ) → a.row * a.plane.stride + a.x * 2 + k * 2 ≡ a.row * a.plane.stride + (a.x + k) * 2 = λ k. omega arith in
    λ k h. rw two (rw two at (c.block-2.ensures k h) ∙ ap (sample_of 2 a.plane.bytes.now) (at k))
