use Rattle.std.proofs.Common.{◌≡◌, ap, ◌∙◌, ℕ, ◌+◌, ◌≤◌, arith, get_or, Fits, w8}
use lib.Ieee.{nan}
use Rattle.laws.specs.Lists.{table}
use Rattle.laws.proofs.Lists.{table_at}
use Rattle.fround.specs.Rounding.{round_clamped}
use Rattle.fround.proofs.EachLane.{each_lane}
use Rattle.fround.proofs.Laws.{round_within}
use Rattle.colour_rows.proofs.samples.whole_chroma_block.Goals as goal

pub overflow_cast-result : goal.overflow_cast-result
overflow_cast-result c =
    let a = c.args in
    let f : ℕ → ℕ = λ k. round_clamped 255 (get_or a.s.now (a.src + a.x + k) nan) in
    rw (c.rounded.ensures _ c.load.ensures)
    (each_lane (Fits w8) 0 16 f (λ k h. let l : f k ≤ 255 = round_within 255 (get_or a.s.now (a.src + a.x + k) nan) in record { fits = omega (arith, l) }))

pub returns : goal.returns
unfolding table
returns c =
    let a = c.args in
    let f : ℕ → ℕ = λ k. round_clamped 255 (get_or a.s.now (a.src + a.x + k) nan) in
    let at : (k : ℕ) → a.src + a.x + k ≡ a.src + (a.x + k) = λ k. omega arith in
    let v : c.rounded.result ≡ table 16 f = c.rounded.ensures (λ k. get_or a.s.now (a.src + a.x + k) nan) c.load.ensures in
    λ k h. rw v (table_at 16 f k 0 h) ∙ ap (λ (n : ℕ). round_clamped 255 (get_or a.s.now n nan)) (at k)
