use Rattle.std.proofs.Common.{◌≡◌, ◌∙◌, ℕ, ◌+◌, ◌-◌, ◌≤◌, arith, get_or, Fits, w16}
use lib.Ieee.{nan}
use Rattle.laws.specs.Lists.{table}
use Rattle.laws.proofs.Lists.{put_same, table_at, length_table}
use Rattle.fround.specs.Rounding.{round_clamped}
use Rattle.fround.proofs.EachLane.{each_lane}
use Rattle.fround.proofs.Laws.{round_within}
use Rattle.lanes.proofs.Overwritten.{overwritten}
use Rattle.linear.specs.Inner.Stores.{store_run}
use Rattle.linear.proofs.rounded.store_block.Goals as goal

pub overflow_cast-samples : goal.overflow_cast-samples
overflow_cast-samples c =
    let a = c.args in
    let f : ℕ → ℕ = λ k. round_clamped a.maxval (get_or a.s.now (a.src + k) nan) in
    rw (c.rounded-samples.ensures _ c.load.ensures)
    (each_lane (Fits w16) 0 16 f (λ k h. let l : f k ≤ a.maxval = round_within a.maxval (get_or a.s.now (a.src + k) nan) in record { fits = omega (arith, l, c.requires.0) }))

pub returns : goal.returns
unfolding store_run table
returns c =
    let a = c.args in
    let e : a.at + 16 - a.at ≡ 16 = omega arith in
    let x = c.copy_from_slice.ensures.after in
    let f : ℕ → ℕ = λ k. round_clamped a.maxval (get_or a.s.now (a.src + k) nan) in
    let v : c.rounded-samples.result ≡ table 16 f = c.rounded-samples.ensures (λ k. get_or a.s.now (a.src + k) nan) c.load.ensures in
    rw (e, x, v) (overwritten a.out.now (table 16 f) a.at 16 0 (length_table 16 f) c.requires.2 ∙ put_same a.out.now a.at 16 (λ k. get_or (table 16 f) k 0) f (λ k h. table_at 16 f k 0 h))
